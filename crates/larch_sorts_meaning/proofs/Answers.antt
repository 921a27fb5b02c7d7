-- The answers are what readings say.
use Rattle.std.proofs.Common.{◌≡◌, inl, inr, Bool, true, false, cond, ◌&&◌, List, [], ◌∷◌, All, Contains, Option, Some}
use Rattle.std.proofs.Common.{None, Result, Ok, Err, refl, sym, ◌∙◌, ap, subst}
use Rattle.std.specs.Bool.{Decides}
use Rattle.std.specs.List.{list_all}
use Rattle.std.proofs.lemmas.List.Elements.{All-nil, All-cons}
use Rattle.larch_base.specs.declared.code.Code.TheVariants.{UnknownSort, NoReading, Ambiguous}
use Rattle.larch_base.specs.declared.fault.Fault.{Fault}
use Rattle.larch_base.specs.declared.position.Pos.{Pos}
use Rattle.larch_base.proofs.Bools.{both_true}
use Rattle.larch_sorts_meaning.specs.Faults.{fault, fault_at, unless}
use Rattle.larch_raw.specs.RawTree.{RawTree}
use Rattle.larch_raw.specs.declared.equation.RawEquation.{RawEquation}
use Rattle.larch_term.specs.Operator.{PlainOperator}
use Rattle.larch_term.specs.Tree.{Tree}
use Rattle.larch_sorts_meaning.specs.Read.{is_empty, unread_in, first_unread, only, answer}
use Rattle.larch_sorts_meaning.specs.Unknown.{unknown_sort}
use Rattle.larch_sorts_meaning.specs.Parts.{parts, sides, in_sides, head_of, equation_head}
use Rattle.larch_sorts_meaning.specs.Stands.{HasReading, FirstUnread, Stands, unknown_stands, unread_stands}
use Rattle.larch_sorts_meaning.specs.Stands.{several_stand}
use Rattle.larch_sorts_meaning.specs.Scope.{Variables}
use Rattle.larch_sorts_meaning.specs.Readings.{Reads, IsOnly, IsNone}
use Rattle.larch_sorts_meaning.specs.ReadingLists.{readings}
use Rattle.larch_sorts_meaning.specs.Found.{Tells}
use Rattle.larch_sorts_meaning.specs.declared.found.Found.{Found}
use Rattle.larch_sorts_meaning.specs.declared.found.Found.TheVariants.{One, Several}
use Rattle.larch_sorts_meaning.proofs.Listed.{listed, reads_listed}
use Rattle.larch_base.proofs.Members.{contains_here, contains_later, contains_cases, contains_none}
use Rattle.larch_sorts_meaning.proofs.Telling.{tells_once}

-- what is found in a list
abbrev pub found_in : {A : Type 0} → (A → A → Bool) → List A → Option (Found A)
found_in same [] = None
found_in same (x ∷ xs) = cond (list_all (same x) xs) (Some (One x)) (Some Several)

-- the answer where this was found
abbrev pub decided : {A : Type 0} → RawEquation → Option (Found A) → Result A Fault
decided raw None = Err (fault NoReading (equation_head raw raw.right))
decided raw (Some (One x)) = Ok x
decided raw (Some Several) = Err (fault Ambiguous raw.first)

decided_by : {A : Type 0} (raw : RawEquation) (b : Bool) (x : A)
    → cond b (Ok x) (Err (fault Ambiguous raw.first)) ≡ decided raw (cond b (Some (One x)) (Some Several))
decided_by raw true x = refl
decided_by raw false x = refl

only_decided : {A : Type 0} (same : A → A → Bool) (raw : RawEquation) (xs : List A)
    → only same raw xs ≡ decided raw (found_in same xs)
only_decided same raw [] = refl
only_decided same raw (x ∷ xs) = decided_by raw (list_all (same x) xs) x

all_pass : {A : Type 0} (p : A → Bool) (xs : List A) (y : A) → list_all p xs ≡ true → Contains xs y → p y ≡ true
all_pass p [] y e c = absurd (contains_none y c)
all_pass p (x ∷ xs) y e c =
    let b = both_true (p x) (list_all p xs) e in
    elim (contains_cases x y xs c) [ inl q ↦ subst (λ z. p z ≡ true) q b.0 | inr d ↦ all_pass p xs y b.1 d ]

failing_first : {A : Type 0} (p : A → Bool) (x : A) (xs : List A) (b : Bool) → p x ≡ b
    → (list_all p xs ≡ false → (y : A) × Contains xs y × (p y ≡ false)) → (b && list_all p xs) ≡ false
    → (y : A) × Contains (x ∷ xs) y × (p y ≡ false)
failing_first p x xs true q later h = let r = later h in (r.0, contains_later x r.0 xs r.1, r.2)
failing_first p x xs false q later h = (x, contains_here x xs, q)

some_fails : {A : Type 0} (p : A → Bool) (xs : List A) → list_all p xs ≡ false → (y : A) × Contains xs y × (p y ≡ false)
some_fails p [] e = cc
some_fails p (x ∷ xs) e = failing_first p x xs (p x) refl (some_fails p xs) e

module _ {A : Type 0} (same : A → A → Bool) (decides : (x y : A) → Decides (same x y) (x ≡ y)) (P : A → Type 0) where
  first_found : (x : A) (xs : List A) (b : Bool) → list_all (same x) xs ≡ b → ((y : A) → Contains (x ∷ xs) y → P y)
      → ((y : A) → P y → Contains (x ∷ xs) y)
      → Tells (cond b (Some (One x)) (Some Several)) P
  first_found x xs true e to from = (
    to x (contains_here x xs),
    λ y p.
        elim (contains_cases x y xs (from y p))
        [ inl q ↦ sym q | inr c ↦ sym ((decides x y).0 (all_pass (same x) xs y e c)) ],
  )
  first_found x xs false e to from =
      let r = some_fails (same x) xs e in (
        x,
        r.0,
        to x (contains_here x xs),
        to r.0 (contains_later x r.0 xs r.1),
        λ q. let w : same x r.0 ≡ true = (decides x r.0).1 q in let v = r.2 in cc,
      )

  -- what is found in a list of all things with a property
  pub list_tells : (xs : List A) → ((x : A) → Contains xs x → P x) → ((x : A) → P x → Contains xs x)
      → Tells (found_in same xs) P
  list_tells [] to from = λ x p. contains_none x (from x p)
  list_tells (x ∷ xs) to from = first_found x xs (list_all (same x) xs) refl to from

  -- the answer by what was found
  pub only_is : (raw : RawEquation) (xs : List A) (found : Option (Found A)) → ((x : A) → Contains xs x → P x)
      → ((x : A) → P x → Contains xs x) → Tells found P → only same raw xs ≡ decided raw found
  only_is raw xs found to from h =
      only_decided same raw xs ∙ ap (decided raw) (tells_once P (found_in same xs) found (list_tells xs to from) h)

nothing_reads : (fs : List PlainOperator) (vs : Variables) (raw : RawTree) (ts : List Tree) → readings fs vs raw ≡ ts
    → is_empty ts ≡ true → IsNone (Reads fs vs raw)
nothing_reads fs vs raw [] e h = λ t r. contains_none t (subst (λ us. Contains us t) e (listed fs vs raw t r))
nothing_reads fs vs raw (t ∷ ts) e h = cc

something_reads : (fs : List PlainOperator) (vs : Variables) (raw : RawTree) (ts : List Tree) → readings fs vs raw ≡ ts
    → is_empty ts ≡ false → HasReading fs vs raw
something_reads fs vs raw [] e h = cc
something_reads fs vs raw (t ∷ ts) e h =
    (t, reads_listed fs vs raw t (subst (λ us. Contains us t) (sym e) (contains_here t ts)))

pub unread_step : (fs : List PlainOperator) (vs : Variables) (raw : RawTree) (raws : List RawTree) (b : Bool)
    → is_empty (readings fs vs raw) ≡ b
    → unread_in fs vs (raw ∷ raws) ≡ cond b (Some (head_of raw)) (unread_in fs vs raws)
unfolding unread_in
unread_step fs vs raw raws true e = rw e refl
unread_step fs vs raw raws false e = rw e refl

first_or_later : (fs : List PlainOperator) (vs : Variables) (raw : RawTree) (raws : List RawTree) (pos : Pos) (b : Bool)
    → is_empty (readings fs vs raw) ≡ b
    → (unread_in fs vs raws ≡ Some pos → FirstUnread fs vs raws pos)
    → cond b (Some (head_of raw)) (unread_in fs vs raws) ≡ Some pos → FirstUnread fs vs (raw ∷ raws) pos
first_or_later fs vs raw raws pos true e later h = (
  [],
  raws,
  raw,
  refl,
  All-nil (HasReading fs vs),
  nothing_reads fs vs raw (readings fs vs raw) refl e,
  let p : head_of raw ≡ pos = cc in sym p,
)
first_or_later fs vs raw raws pos false e later h =
    let r = later h in (
      raw ∷ r.0,
      r.1,
      r.2,
      ap (λ us. raw ∷ us) r.3,
      All-cons (HasReading fs vs) raw r.0 (something_reads fs vs raw (readings fs vs raw) refl e) r.4,
      r.5,
      r.6,
    )

-- the position of the first part without a reading
pub unread_at : (fs : List PlainOperator) (vs : Variables) (raws : List RawTree) (pos : Pos)
    → unread_in fs vs raws ≡ Some pos → FirstUnread fs vs raws pos
unfolding unread_in
unread_at fs vs [] pos e = cc
unread_at fs vs (raw ∷ raws) pos e =
    first_or_later fs vs raw raws pos (is_empty (readings fs vs raw)) refl (unread_at fs vs raws pos)
    (sym (unread_step fs vs raw raws (is_empty (readings fs vs raw)) refl) ∙ e)

read_or_not : (fs : List PlainOperator) (vs : Variables) (raw : RawTree) (raws : List RawTree) (b : Bool)
    → is_empty (readings fs vs raw) ≡ b
    → (unread_in fs vs raws ≡ None → All (HasReading fs vs) raws)
    → cond b (Some (head_of raw)) (unread_in fs vs raws) ≡ None → All (HasReading fs vs) (raw ∷ raws)
read_or_not fs vs raw raws true e later h = cc
read_or_not fs vs raw raws false e later h =
    All-cons (HasReading fs vs) raw raws (something_reads fs vs raw (readings fs vs raw) refl e) (later h)

-- all parts have readings
pub all_have_readings : (fs : List PlainOperator) (vs : Variables) (raws : List RawTree) → unread_in fs vs raws ≡ None
    → All (HasReading fs vs) raws
all_have_readings fs vs [] e = All-nil (HasReading fs vs)
all_have_readings fs vs (raw ∷ raws) e =
    read_or_not fs vs raw raws (is_empty (readings fs vs raw)) refl (all_have_readings fs vs raws)
    (sym (unread_step fs vs raw raws (is_empty (readings fs vs raw)) refl) ∙ e)

-- the answer, by what was found of the parts and of the whole
module _ {A : Type 0} (same : A → A → Bool) (decides : (x y : A) → Decides (same x y) (x ≡ y)) (P : A → Type 0)
    (fs : List PlainOperator) (vs : Variables) (raw : RawEquation) (xs : List A)
    (to : (x : A) → Contains xs x → P x) (from : (x : A) → P x → Contains xs x) where
  pub answer_unknown : (pos : Pos) → unknown_sort fs raw ≡ Some pos
      → answer fs vs raw same xs ≡ Err (fault UnknownSort pos)
  answer_unknown pos e =
      ap (λ u. unless (fault_at UnknownSort u)
      (unless (fault_at NoReading (first_unread fs vs raw)) (only same raw xs))) e

  pub answer_unread : (f : Fault) → unknown_sort fs raw ≡ None → fault_at NoReading (first_unread fs vs raw) ≡ Some f
      → answer fs vs raw same xs ≡ Err f
  answer_unread f e u =
      ap (λ z. unless (fault_at UnknownSort z)
      (unless (fault_at NoReading (first_unread fs vs raw)) (only same raw xs))) e
      ∙ ap (λ z. unless z (only same raw xs)) u

  pub answer_found : (found : Option (Found A)) → unknown_sort fs raw ≡ None → first_unread fs vs raw ≡ None
      → Tells found P
      → answer fs vs raw same xs ≡ decided raw found
  answer_found found e u h =
      ap (λ z. unless (fault_at UnknownSort z)
      (unless (fault_at NoReading (first_unread fs vs raw)) (only same raw xs))) e
      ∙ ap (λ z. unless (fault_at NoReading z) (only same raw xs)) u
      ∙ only_is same decides P raw xs found to from h

  found_ok : (found : Option (Found A)) (x : A) → Tells found P → decided raw found ≡ Ok x → IsOnly P x
  found_ok None x h e = cc
  found_ok (Some Several) x h e = cc
  found_ok (Some (One y)) x h e = let q : y ≡ x = cc in subst (IsOnly P) q h

  found_err : (found : Option (Found A)) (f : Fault) → Tells found P → unknown_sort fs raw ≡ None
      → All (HasReading fs vs) (in_sides parts (sides raw)) → decided raw found ≡ Err f → Stands fs vs raw P f
  found_err None f h u all e =
      let q : fault NoReading (equation_head raw raw.right) ≡ f = cc in
      subst (Stands fs vs raw P) q (unread_stands u (inr (all, h, refl)))
  found_err (Some Several) f h u all e =
      let q : fault Ambiguous raw.first ≡ f = cc in subst (Stands fs vs raw P) q (several_stand u h refl)
  found_err (Some (One y)) f h u all e = cc

  ok_from : (x : A) (u p : Option Pos) → unknown_sort fs raw ≡ u → first_unread fs vs raw ≡ p
      → unless (fault_at UnknownSort u) (unless (fault_at NoReading p) (only same raw xs)) ≡ Ok x
      → (unknown_sort fs raw ≡ None) × IsOnly P x
  ok_from x (Some pos) p e f h = cc
  ok_from x None (Some pos) e f h = cc
  ok_from x None None e f h =
      (e, found_ok (found_in same xs) x (list_tells same decides P xs to from) (sym (only_decided same raw xs) ∙ h))

  -- an answer is the only reading, and all sorts are known
  pub answer_ok : (x : A) → answer fs vs raw same xs ≡ Ok x → (unknown_sort fs raw ≡ None) × IsOnly P x
  answer_ok x h = ok_from x (unknown_sort fs raw) (first_unread fs vs raw) refl refl h

  err_from : (f : Fault) (u p : Option Pos) → unknown_sort fs raw ≡ u → first_unread fs vs raw ≡ p
      → unless (fault_at UnknownSort u) (unless (fault_at NoReading p) (only same raw xs)) ≡ Err f
      → Stands fs vs raw P f
  err_from f (Some pos) p e u h =
      let q : fault UnknownSort pos ≡ f = cc in subst (Stands fs vs raw P) q (unknown_stands e)
  err_from f None (Some pos) e u h =
      let q : fault NoReading pos ≡ f = cc in
      subst (Stands fs vs raw P) q (unread_stands e (inl (unread_at fs vs (in_sides parts (sides raw)) pos u)))
  err_from f None None e u h =
      found_err (found_in same xs) f (list_tells same decides P xs to from) e
      (all_have_readings fs vs (in_sides parts (sides raw)) u) (sym (only_decided same raw xs) ∙ h)

  -- a fault stands where it says
  pub answer_err : (f : Fault) → answer fs vs raw same xs ≡ Err f → Stands fs vs raw P f
  answer_err f h = err_from f (unknown_sort fs raw) (first_unread fs vs raw) refl refl h
