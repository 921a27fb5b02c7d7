-- The duties of a trait up to the first with a label.
use Rattle.std.proofs.Common.{◌≡◌, refl, sym, ap, ap₂, subst, ◌∙◌, arith, ℕ, zero, suc, ◌+◌, ◌<◌, ◌≤◌, Bool, true}
use Rattle.std.proofs.Common.{false}
use Rattle.std.proofs.Common.{inl, inr, cond, not, nat_lt, List, [], ◌∷◌, ◌++◌, length, map, take, All, Contains}
use Rattle.std.proofs.Common.{Option, Some, None}
use Rattle.std.specs.Prelude.{find, option_map, sum_by}
use Rattle.std.specs.List.{position, position_or_len}
use Rattle.std.proofs.lemmas.Bool.Decides.{nat_tests}
use Rattle.std.proofs.lemmas.List.{append_assoc, append-nil, length-append, map-append}
use Rattle.std.proofs.lemmas.List.Elements.{All-contains}
use Rattle.std.proofs.lemmas.List.Sums.{sum_by-append}
use Rattle.std.proofs.Math.Seq.{take-append_seam}
use Rattle.larch_base.proofs.Bools.{true_or_false}
use Rattle.larch_base.proofs.Lists.{all_from}
use Rattle.larch_base.proofs.Members.{contains_left}
use Rattle.larch_base.specs.declared.label.Label.{Label}
use Rattle.larch_base.specs.declared.limits.TheConstants.{MAX_DUTIES}
use Rattle.larch_session_derive_meaning.specs.DutiesMeaningClaims.{Claim, place_of, same_label}
use Rattle.larch_prove_meaning.specs.Reports.{Answered, all_answered, outcome_for}
use Rattle.larch_prove_meaning.specs.Scripts.{ClaimedDuty}
use Rattle.larch_script_commands.specs.declared.script.Script.{Script}
use Rattle.larch_session_derive_meaning.specs.Derived.{answer_with}
use Rattle.larch_session_derive_meaning.specs.Ordered.{AreInOrder}
use Rattle.larch_session_derive_meaning.proofs.Finding.{find_in_map}
use Rattle.larch_session_derive_meaning.specs.SessionLawClaims.{AreClaims, IsClaim}
use Rattle.larch_session_derive_meaning.specs.SessionMeaningTraits.{script_duty}
use Rattle.larch_session_replay.specs.SessionSourcesSteps.{block_steps, script_steps}
use Rattle.larch_session_replay.proofs.Following.{answered_are}

-- ---- the first of some things that passes a test

record Split {A : Type 0} (p : A → Bool) (xs : List A) (n : ℕ) : Type 0 where
  pub front : List A
  pub item : A
  pub back : List A
  pub is : xs ≡ front ++ item ∷ back
  pub long : length front ≡ n
  pub none : find p front ≡ None
  pub here : p item ≡ true

module _ {A : Type 0} (p : A → Bool) where
  first_here : (x : A) (xs : List A) → p x ≡ true → Split p (x ∷ xs) (position_or_len p (x ∷ xs))
  first_here x xs e =
      record {
        front = [];
        item = x;
        back = xs;
        is = refl;
        long = sym (ap (λ b. cond (not b) (1 + position_or_len p xs) 0) e);
        none = refl;
        here = e;
      }

  first_later : (x : A) (xs : List A) → p x ≡ false → Split p xs (position_or_len p xs)
      → Split p (x ∷ xs) (position_or_len p (x ∷ xs))
  first_later x xs e s =
      let long = s.long in
      let more : suc (length s.front) ≡ 1 + position_or_len p xs = omega (arith, long) in
      record {
        front = x ∷ s.front;
        item = s.item;
        back = s.back;
        is = ap (λ ys. x ∷ ys) s.is;
        long = more ∙ sym (ap (λ b. cond (not b) (1 + position_or_len p xs) 0) e);
        none = ap (λ b. cond b (Some x) (find p s.front)) e ∙ s.none;
        here = s.here;
      }

  far : (x : A) (xs : List A) → p x ≡ false → position_or_len p (x ∷ xs) ≡ 1 + position_or_len p xs
  far x xs e = ap (λ b. cond (not b) (1 + position_or_len p xs) 0) e

  near : (x : A) (xs : List A) → p x ≡ true → position_or_len p (x ∷ xs) ≡ 0
  near x xs e = ap (λ b. cond (not b) (1 + position_or_len p xs) 0) e

  split : (xs : List A) → position_or_len p xs < length xs → Split p xs (position_or_len p xs)
  split [] lt = absurd (omega (arith, lt))
  split (x ∷ xs) lt = elim (true_or_false (p x)) [
    | inl here ↦ first_here x xs here
    | inr later ↦ let f = far x xs later in first_later x xs later (split xs (omega (arith, lt, f)))
  ]

  not_found : (xs : List A) → length xs ≤ position_or_len p xs → find p xs ≡ None
  not_found [] le = refl
  not_found (x ∷ xs) le = elim (true_or_false (p x)) [
    | inl here ↦ let n = near x xs here in absurd (omega (arith, le, n))
    | inr later ↦ let f = far x xs later in
        ap (λ b. cond b (Some x) (find p xs)) later ∙ not_found xs (omega (arith, le, f))
  ]

  is_within : (n : ℕ) (xs : List A) → nat_lt n (length xs) ≡ true → n < length xs
  is_within n xs e = grind (arith, nat_tests, e)

  is_past : (n : ℕ) (xs : List A) → nat_lt n (length xs) ≡ false → length xs ≤ n
  is_past n xs e = grind (arith, nat_tests, e)

  some_is : (b : Bool) (m n : ℕ) → cond b (Some m) None ≡ Some n → (b ≡ true) × (m ≡ n)
  some_is true m n e = (refl, cc)
  some_is false m n e = absurd (cc)

  none_is : (b : Bool) (m : ℕ) → cond b (Some m) None ≡ None → b ≡ false
  none_is true m e = absurd (cc)
  none_is false m e = refl

  split_at : (xs : List A) (n : ℕ) → position p xs ≡ Some n → Split p xs n
  split_at xs n e =
      let t = some_is (nat_lt (position_or_len p xs) (length xs)) (position_or_len p xs) n e in
      subst (Split p xs) t.1 (split xs (is_within (position_or_len p xs) xs t.0))

  pub none_at : (xs : List A) → position p xs ≡ None → find p xs ≡ None
  none_at xs e =
      not_found xs
      (is_past (position_or_len p xs) xs (none_is (nat_lt (position_or_len p xs) (length xs)) (position_or_len p xs) e))

  unless_passed : (b : Bool) (x : A) (o : Option A) → cond b (Some x) o ≡ None → (b ≡ false) × (o ≡ None)
  unless_passed true x o e = absurd (cc)
  unless_passed false x o e = (refl, e)

  find_behind : (xs : List A) (x : A) (ys : List A) → find p xs ≡ None → p x ≡ true
      → find p ((xs ++ x ∷ []) ++ ys) ≡ Some x
  find_behind [] x ys e h = ap (λ b. cond b (Some x) (find p ys)) h
  find_behind (z ∷ xs) x ys e h =
      let t = unless_passed (p z) z (find p xs) e in
      ap (λ b. cond b (Some z) (find p ((xs ++ x ∷ []) ++ ys))) t.0 ∙ find_behind xs x ys t.1 h

-- the first so many
take_front : {A : Type 0} (xs : List A) (x : A) (ys : List A) (n : ℕ) → length xs ≡ n
    → take (n + 1) (xs ++ x ∷ ys) ≡ xs ++ x ∷ []
take_front xs x ys n e =
    let all = length-append xs (x ∷ []) in
    let long : n + 1 ≡ length (xs ++ x ∷ []) = omega (arith, e, all) in
    ap₂ take long (sym (append_assoc xs (x ∷ []) ys)) ∙ take-append_seam (xs ++ x ∷ []) ys

-- ---- what duties come to

module _ (limit : ℕ) (script : Script) where
  answered_behind : (earlier : List Answered) (k : ℕ) (ds es : List ClaimedDuty)
      → all_answered limit script earlier k (ds ++ es)
      ≡ all_answered limit script (all_answered limit script earlier k ds) (k + length ds) es
  answered_behind earlier k [] es =
      let same : k ≡ k + 0 = omega arith in ap (λ n. all_answered limit script earlier n es) same
  answered_behind earlier k (d ∷ ds) es =
      let a : Answered = record { number = k; duty = d; outcome = outcome_for limit script earlier d } in
      let same : suc k + length ds ≡ k + suc (length ds) = omega arith in
      answered_behind (earlier ++ a ∷ []) (suc k) ds es
      ∙ ap (λ n. all_answered limit script (all_answered limit script (earlier ++ a ∷ []) (suc k) ds) n es) same

  answered_further : (earlier : List Answered) (k : ℕ) (ds : List ClaimedDuty)
      → (more : List Answered) × (all_answered limit script earlier k ds ≡ earlier ++ more)
  answered_further earlier k [] = ([], sym (append-nil earlier))
  answered_further earlier k (d ∷ ds) =
      let a : Answered = record { number = k; duty = d; outcome = outcome_for limit script earlier d } in
      let m = answered_further (earlier ++ a ∷ []) (suc k) ds in
      (a ∷ m.0, m.1 ∙ append_assoc earlier (a ∷ []) m.0)

-- whether a duty has a label
abbrev pub claim_has : Label → Claim → Bool
claim_has label c = same_label label c.label

abbrev duty_has : Label → ClaimedDuty → Bool
duty_has label d = same_label label d.label

unmapped : {A B : Type 0} (f : A → B) (o : Option A) → option_map f o ≡ None → o ≡ None
unmapped f None e = refl
unmapped f (Some x) e = absurd (cc)

module _ (limit : ℕ) (script : Script) (label : Label) where
  -- of claims without the label there is no answer with it
  pub none_answered : (claims : List Claim) → find (claim_has label) claims ≡ None
      → answer_with label (all_answered limit script [] 1 (map script_duty claims)) ≡ None
  none_answered claims e =
      let answers = all_answered limit script [] 1 (map script_duty claims) in
      unmapped (λ (a : Answered). a.duty) (answer_with label answers)
      (sym (find_in_map (duty_has label) (λ (a : Answered). a.duty) answers)
      ∙ ap (find (duty_has label)) (answered_are limit script [] 1 (map script_duty claims))
      ∙ find_in_map (duty_has label) script_duty claims ∙ ap (option_map script_duty) e)

  -- the answer of the first claim with the label, and those of the claims in front
  pub record IsAnsweredAt (claims : List Claim) (n : ℕ) : Type 0 where
    pub front : List Claim
    pub claim : Claim
    pub back : List Claim
    pub is : claims ≡ (front ++ claim ∷ []) ++ back
    pub within : n < length claims
    pub taken : take (n + 1) claims ≡ front ++ claim ∷ []
    pub before : List Answered
    pub answer : Answered
    pub answered : all_answered limit script [] 1 (map script_duty (front ++ claim ∷ [])) ≡ before ++ answer ∷ []
    pub found : answer_with label (all_answered limit script [] 1 (map script_duty claims)) ≡ Some answer

  pub answered_at : (claims : List Claim) (n : ℕ) → place_of label claims ≡ Some n → IsAnsweredAt claims n
  answered_at claims n e =
      let s = split_at (claim_has label) claims n e in
      let d : ClaimedDuty = script_duty s.item in
      let before = all_answered limit script [] 1 (map script_duty s.front) in
      let a : Answered = record {
        number = 1 + length (map script_duty s.front);
        duty = d;
        outcome = outcome_for limit script before d;
      } in
      let is : claims ≡ (s.front ++ s.item ∷ []) ++ s.back =
      s.is ∙ sym (append_assoc s.front (s.item ∷ []) s.back) in
      let answered : all_answered limit script [] 1 (map script_duty (s.front ++ s.item ∷ [])) ≡ before ++ a ∷ [] =
      ap (all_answered limit script [] 1) (map-append script_duty s.front (s.item ∷ []))
      ∙ answered_behind limit script [] 1 (map script_duty s.front) (d ∷ []) in
      let first = map script_duty (s.front ++ s.item ∷ []) in
      let more = answered_further limit script (all_answered limit script [] 1 first) (1 + length first)
      (map script_duty s.back) in
      let all : all_answered limit script [] 1 (map script_duty claims) ≡ (before ++ a ∷ []) ++ more.0 =
      ap (λ cs. all_answered limit script [] 1 (map script_duty cs)) is
      ∙ ap (all_answered limit script [] 1) (map-append script_duty (s.front ++ s.item ∷ []) s.back)
      ∙ answered_behind limit script [] 1 first (map script_duty s.back) ∙ more.1
      ∙ ap (λ xs. xs ++ more.0) answered in
      record {
        front = s.front;
        claim = s.item;
        back = s.back;
        is = is;
        within =
            (let all = ap length s.is ∙ length-append s.front (s.item ∷ s.back) in
            let long = s.long in
            omega (arith, all, long));
        taken = ap (take (n + 1)) s.is ∙ take_front s.front s.item s.back n s.long;
        before = before;
        answer = a;
        answered = answered;
        found =
            ap (answer_with label) all
            ∙ find_behind (λ (b : Answered). same_label label b.duty.label) before a more.0
            (none_answered s.front s.none) s.here;
      }

-- ---- some of the duties of a trait, from the first on

pub claims_front : (ds es : List ClaimedDuty) → AreClaims (ds ++ es) → AreClaims ds
claims_front ds es h =
    let few = h.few in
    let both = length-append ds es in
    record {
      each = all_from IsClaim ds (λ d c. All-contains IsClaim (ds ++ es) d h.each (contains_left ds es d c));
      few = omega (arith, few, both);
      serve = λ d e i j. h.serve d e (contains_left ds es d i) (contains_left ds es e j);
    }

pub order_front : (ds es : List ClaimedDuty) → AreInOrder (ds ++ es) → AreInOrder ds
order_front ds es h =
    record {
      begin = λ d e i j. h.begin d e (contains_left ds es d i) (contains_left ds es e j);
      first = λ before rest d e is. h.first before (rest ++ es) d e
          (ap (λ xs. xs ++ es) is ∙ append_assoc before (d ∷ rest) es);
    }

pub steps_front : (script : Script) (ds es : List ClaimedDuty) → script_steps script ds ≤ script_steps script (ds ++ es)
steps_front script ds es =
    let all = sum_by-append (λ (d : ClaimedDuty). block_steps script d.label) ds es in omega (arith, all)

-- the same of claims
module _ (claims front back : List Claim) (is : claims ≡ front ++ back) where
  split_duties : map script_duty claims ≡ map script_duty front ++ map script_duty back
  split_duties = ap (map script_duty) is ∙ map-append script_duty front back

  pub front_claims : AreClaims (map script_duty claims) → AreClaims (map script_duty front)
  front_claims h = claims_front (map script_duty front) (map script_duty back) (subst AreClaims split_duties h)

  pub front_order : AreInOrder (map script_duty claims) → AreInOrder (map script_duty front)
  front_order h = order_front (map script_duty front) (map script_duty back) (subst AreInOrder split_duties h)

  pub front_steps : (script : Script)
      → script_steps script (map script_duty front) ≤ script_steps script (map script_duty claims)
  front_steps script =
      let le = steps_front script (map script_duty front) (map script_duty back) in
      let same = ap (script_steps script) split_duties in
      omega (arith, le, same)

-- there is one
pub some_front : (front : List Claim) (claim : Claim) (claims : List Claim) → claims ≡ front ++ claim ∷ []
    → 0 < length claims
some_front front claim claims e =
    let all = ap length e ∙ length-append front (claim ∷ []) in omega (arith, all)
