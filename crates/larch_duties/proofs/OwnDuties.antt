-- What a trait claims over its own theory are its duties, and there aren't too many of them.
use Rattle.std.proofs.Common.{◌≡◌, refl, sym, ap, subst, ◌∙◌, ℕ, zero, suc, ◌+◌, ◌<◌, ◌≤◌, ◌^◌, true, false, cond}
use Rattle.std.proofs.Common.{List, [], ◌∷◌, ◌++◌, length, map, Some, None, Ok, inl, inr, arith, codes}
use Rattle.std.specs.Prelude.{bytes_eq, decimal, flat_map, nat_lt, option_map, slice_get}
use Rattle.std.specs.Cmp.Lexicographic.{bytes_decides}
use Rattle.std.proofs.lemmas.Bool.Decides.{nat_tests}
use Rattle.std.proofs.lemmas.Fmt.{decimal_injective}
use Rattle.std.proofs.lemmas.List.{append_cancel_left, length-append}
use Rattle.larch_base.proofs.Bools.{true_or_false}
use Rattle.larch_base.specs.Label.{label_text}
use Rattle.larch_base.specs.declared.code.Code.TheVariants.{Size}
use Rattle.larch_base.specs.declared.label.Label.{Label}
use Rattle.larch_base.specs.declared.label.Label.TheVariants.{Assume, Imply}
use Rattle.larch_base.specs.declared.limits.TheConstants.{MAX_DUTIES}
use Rattle.larch_term.specs.declared.statement.Statement.{Statement}
use Rattle.larch_term.specs.declared.statement.Theory.{Theory}
use Rattle.larch_base_meaning.specs.Steps.{after, each}
use Rattle.larch_flat_meaning.proofs.TraitsItemsKept.{after_was, ok_inj}
use Rattle.larch_flat_meaning.specs.Files.{Files}
use Rattle.larch_flat_meaning.specs.Flat.{FlatTrait, theory_of}
use Rattle.larch_flat_meaning.specs.Gathered.{new_among}
use Rattle.larch_flat_meaning.specs.Stops.{surely}
use Rattle.larch_flat_meaning.proofs.Gathering.{surely_was}
use Rattle.larch_flat_meaning.proofs.Proper.{refused_if_was}
use Rattle.larch_duties_meaning.specs.Conversions.{Clause, Conversion, clause_over, conversion_of}
use Rattle.larch_duties_meaning.specs.Duties.{Duties, Duty, all_duties, duties, duties_of, label_all, not_too_many}
use Rattle.larch_duties_meaning.specs.Duties.{with_clauses}
use Rattle.larch_duties_meaning.specs.Implied.{implied_statements}
use Rattle.larch_flat.specs.FlatSourcesSources.{Table, files_in}
use Rattle.larch_flat.specs.Parts.{flat_trait}
use Rattle.larch_duties.specs.Finding.{label_behind, labelled_in, or_else}
use Rattle.larch_duties.specs.Own.{IsDutyOf, is_assumed, is_implied, own_claims, statements_with}
use Rattle.larch_duties.specs.Own.{trait_own_claims}
use Rattle.larch_duties.specs.TraitDuties.{claims_of, trait_duties}
use Rattle.larch_duties.specs.declared.own.OwnClaims.{OwnClaims}
use Rattle.larch_duties.proofs.Counts.{labelled_length}
use Rattle.larch_duties.proofs.Found.{duty_with, found_joined, stated_found}
use Rattle.larch_duties.proofs.OwnKept.{assumed_are, implied_are}

-- ---- how the duties of a flat trait were made

record Made (flat : FlatTrait) (d : Duties) : Type 0 where
  pub implied : List Statement
  pub is : d.own ≡ label_all Assume 1 (theory_of flat) flat.discharge ++ label_all Imply 1 (theory_of flat) implied
  pub few : length (all_duties d) ≤ MAX_DUTIES

not_more : (n : ℕ) → nat_lt MAX_DUTIES n ≡ false → n ≤ MAX_DUTIES
not_more n e = grind (arith, nat_tests, e)

duties_made : (limit : ℕ) (files : Files) (flat : FlatTrait) (d : Duties) → duties limit files flat ≡ Ok d → Made flat d
unfolding duties
duties_made limit files flat d is =
    let make : Conversion → Clause = clause_over (theory_of flat) in
    let r = after_was (implied_statements limit files flat) (λ ss. surely (with_clauses flat ss)) d is in
    let p = after_was (each (conversion_of flat.operators) flat.raw.conversions)
    (λ cs. not_too_many flat.raw.name.pos (duties_of flat r.0 (map make cs))) d
    (surely_was (with_clauses flat r.0) d r.2) in
    let whole : Duties = duties_of flat r.0 (map make p.0) in
    let q = refused_if_was Size flat.raw.name.pos (nat_lt MAX_DUTIES (length (all_duties whole))) (Ok whole) d p.2 in
    record {
      implied = new_among flat.discharge r.0;
      is = ap (λ (x : Duties). x.own) (sym (ok_inj q.1));
      few =
          subst (λ (x : Duties). length (all_duties x) ≤ MAX_DUTIES) (ok_inj q.1)
          (not_more (length (all_duties whole)) q.0);
    }

-- the flat trait and the duties of what a trait claims
record Claimed (sources : Table) (name : List ℕ) (own : OwnClaims) : Type 0 where
  pub flat : FlatTrait
  pub duties : Duties
  pub are_duties : trait_duties sources name ≡ Ok duties
  pub is_theory : theory_of flat ≡ own.theory
  pub are_assumed : flat.discharge ≡ own.assumed
  pub implied : List Statement
  pub are_implied : implied ≡ own.implied
  pub is : duties.own ≡ label_all Assume 1 (theory_of flat) flat.discharge ++ label_all Imply 1 (theory_of flat) implied
  pub few : length (all_duties duties) ≤ MAX_DUTIES

claimed : (sources : Table) (name : List ℕ) (own : OwnClaims) → trait_own_claims sources name ≡ Ok own
    → Claimed sources name own
claimed sources name own e =
    let a = after_was (flat_trait sources name)
    (λ flat. after (claims_of sources flat) (λ d. Ok (own_claims flat d))) own e in
    let b = after_was (claims_of sources a.0) (λ d. Ok (own_claims a.0 d)) own a.2 in
    let flat : FlatTrait = a.0 in
    let d : Duties = b.0 in
    let same : own_claims flat d ≡ own = ok_inj b.2 in
    let m = duties_made (length sources) (files_in sources) flat d b.1 in
    record {
      flat = flat;
      duties = d;
      are_duties = ap (λ r. after r (claims_of sources)) a.1 ∙ b.1;
      is_theory = ap (λ (o : OwnClaims). o.theory) same;
      are_assumed =
          sym (assumed_are (theory_of flat) flat.discharge m.implied) ∙ ap (statements_with is_assumed) (sym m.is)
          ∙ ap (λ (o : OwnClaims). o.assumed) same;
      implied = m.implied;
      are_implied =
          sym (implied_are (theory_of flat) flat.discharge m.implied) ∙ ap (statements_with is_implied) (sym m.is)
          ∙ ap (λ (o : OwnClaims). o.implied) same;
      is = m.is;
      few = m.few;
    }

-- ---- how many there are

own_size : (t : Theory) (discharge implied : List Statement)
    → length (label_all Assume 1 t discharge ++ label_all Imply 1 t implied) ≡ length discharge + length implied
own_size t discharge implied =
    let one = labelled_length Assume 1 t discharge in
    let two = labelled_length Imply 1 t implied in
    let all = length-append (label_all Assume 1 t discharge) (label_all Imply 1 t implied) in
    omega (arith, one, two, all)

module _ (sources : Table) (name : List ℕ) (own : OwnClaims) (is : trait_own_claims sources name ≡ Ok own) where
  all_few : length own.assumed + length own.implied ≤ MAX_DUTIES
  all_few =
      let c = claimed sources name own is in
      let size = own_size (theory_of c.flat) c.flat.discharge c.implied in
      let t : Theory = theory_of c.flat in
      let long : length c.duties.own
      ≡ length (label_all Assume 1 t c.flat.discharge ++ label_all Imply 1 t c.implied) = ap length c.is in
      let all = length-append c.duties.own (flat_map (λ k. k.duties) c.duties.clauses) in
      let few = c.few in
      let a : length c.flat.discharge ≡ length own.assumed = ap length c.are_assumed in
      let b : length c.implied ≡ length own.implied = ap length c.are_implied in
      omega (arith, size, long, all, few, a, b)

  pub few_assumed : length own.assumed ≤ MAX_DUTIES
  few_assumed = let all = all_few in omega (arith, all)

  pub few_implied : length own.implied ≤ MAX_DUTIES
  few_implied = let all = all_few in omega (arith, all)

-- ---- labels

text_self : (text : List ℕ) → bytes_eq text text ≡ true
text_self text = (bytes_decides text text).1 refl

text_other : (text other : List ℕ) → (text ≡ other → ⊥) → bytes_eq text other ≡ false
text_other text other differ = elim (true_or_false (bytes_eq text other)) [
  | inl same ↦ absurd (differ ((bytes_decides text other).0 same))
  | inr other_text ↦ other_text
]

assumes_differ : (a b : ℕ) → a < 2 ^ 64 → b < 2 ^ 64 → label_text (Assume a) ≡ label_text (Assume b) → a ≡ b
assumes_differ a b p q e = decimal_injective a b p q (append_cancel_left (codes "assume.") (decimal a) (decimal b) e)

implies_differ : (a b : ℕ) → a < 2 ^ 64 → b < 2 ^ 64 → label_text (Imply a) ≡ label_text (Imply b) → a ≡ b
implies_differ a b p q e = decimal_injective a b p q (append_cancel_left (codes "imply.") (decimal a) (decimal b) e)

-- of things with labels of one kind that differ, the one at a place has the label with its number
labelled_at : {A : Type 0} (kind : ℕ → Label) → ((n : ℕ) → label_behind (kind n) ≡ kind (suc n))
    → ((a b : ℕ) → a < 2 ^ 64 → b < 2 ^ 64 → label_text (kind a) ≡ label_text (kind b) → a ≡ b)
    → (n : ℕ) (xs : List A) (i : ℕ) (x : A)
    → n + length xs < 2 ^ 64 → slice_get xs i ≡ Some x → labelled_in (kind n) xs (label_text (kind (n + i))) ≡ Some x
labelled_at kind next tell n [] i x few at = at
labelled_at kind next tell n (y ∷ ys) zero x few at =
    let here : n + 0 ≡ n = omega arith in
    ap (λ k. cond (bytes_eq (label_text (kind k)) (label_text (kind n))) (Some y)
    (labelled_in (label_behind (kind n)) ys (label_text (kind k)))) here
    ∙ ap (λ b. cond b (Some y) (labelled_in (label_behind (kind n)) ys (label_text (kind n))))
    (text_self (label_text (kind n))) ∙ at
labelled_at kind next tell n (y ∷ ys) (suc i) x few at =
    let within = place_within ys i x at in
    let other : bytes_eq (label_text (kind (n + suc i))) (label_text (kind n)) ≡ false =
    text_other (label_text (kind (n + suc i))) (label_text (kind n)) (λ e.
    let same = tell (n + suc i) n (omega (arith, few, within)) (omega (arith, few)) e in
    absurd (omega (arith, same))) in
    let later : n + suc i ≡ suc n + i = omega arith in
    ap (λ b. cond b (Some y) (labelled_in (label_behind (kind n)) ys (label_text (kind (n + suc i))))) other
    ∙ ap (λ l. labelled_in l ys (label_text (kind (n + suc i)))) (next n)
    ∙ ap (λ k. labelled_in (kind (suc n)) ys (label_text (kind k))) later
    ∙ labelled_at kind next tell (suc n) ys i x (omega (arith, few)) at
  where
    place_within : {A : Type 0} (xs : List A) (i : ℕ) (x : A) → slice_get xs i ≡ Some x → i < length xs
    place_within [] i x at = cc
    place_within (y ∷ ys) zero x at = omega arith
    place_within (y ∷ ys) (suc i) x at = let more = place_within ys i x at in omega (arith, more)

-- none of another kind has it
other_kind : (k n : ℕ) → bytes_eq (label_text (Imply k)) (label_text (Assume n)) ≡ false
other_kind k n = refl

labelled_none : {A : Type 0} (k n : ℕ) (xs : List A) → labelled_in (Assume n) xs (label_text (Imply k)) ≡ None
labelled_none k n [] = refl
labelled_none k n (x ∷ xs) =
    ap (λ b. cond b (Some x) (labelled_in (Assume (suc n)) xs (label_text (Imply k)))) (other_kind k n)
    ∙ labelled_none k (suc n) xs

-- ---- the duty of a claim

module _ (sources : Table) (name : List ℕ) (own : OwnClaims) (is : trait_own_claims sources name ≡ Ok own) where
  -- the duty with a label is found among those of the trait's own theory, in two parts
  found_in : (c : Claimed sources name own) (text : List ℕ)
      → duty_with text (all_duties c.duties)
      ≡ or_else (or_else (duty_with text (label_all Assume 1 (theory_of c.flat) c.flat.discharge))
      (duty_with text (label_all Imply 1 (theory_of c.flat) c.implied)))
      (duty_with text (flat_map (λ k. k.duties) c.duties.clauses))
  found_in c text =
      let t : Theory = theory_of c.flat in
      let rest : List Duty = flat_map (λ k. k.duties) c.duties.clauses in
      found_joined text c.duties.own rest
      ∙ ap (λ ds. or_else (duty_with text ds) (duty_with text rest)) c.is
      ∙ ap (λ o. or_else o (duty_with text rest))
      (found_joined text (label_all Assume 1 t c.flat.discharge) (label_all Imply 1 t c.implied))

  pub assumed_duty : (i : ℕ) (s : Statement) → slice_get own.assumed i ≡ Some s
      → IsDutyOf sources name own (Assume (suc i)) s
  assumed_duty i s at =
      let c = claimed sources name own is in
      let t : Theory = theory_of c.flat in
      let text : List ℕ = label_text (Assume (suc i)) in
      let few = few_assumed sources name own is in
      let size : length c.flat.discharge ≡ length own.assumed = ap length c.are_assumed in
      let here : 1 + i ≡ suc i = omega arith in
      let labelled : labelled_in (Assume 1) c.flat.discharge text ≡ Some s =
      ap (λ k. labelled_in (Assume 1) c.flat.discharge (label_text (Assume k))) (sym here)
      ∙ labelled_at Assume (λ _. refl) assumes_differ 1 c.flat.discharge i s (omega (arith, few, size))
      (ap (λ ss. slice_get ss i) c.are_assumed ∙ at) in
      let first : duty_with text (label_all Assume 1 t c.flat.discharge) ≡ Some (t, s) =
      stated_found Assume (λ _. refl) 1 t c.flat.discharge text ∙ ap (option_map (λ r. (t, r))) labelled in (
        c.duties,
        c.are_duties,
        found_in c text
            ∙ ap (λ o. or_else (or_else o (duty_with text (label_all Imply 1 t c.implied)))
            (duty_with text (flat_map (λ k. k.duties) c.duties.clauses))) first
            ∙ ap (λ u. Some (u, s)) c.is_theory,
      )

  pub implied_duty : (i : ℕ) (s : Statement) → slice_get own.implied i ≡ Some s
      → IsDutyOf sources name own (Imply (suc i)) s
  implied_duty i s at =
      let c = claimed sources name own is in
      let t : Theory = theory_of c.flat in
      let text : List ℕ = label_text (Imply (suc i)) in
      let few = few_implied sources name own is in
      let size : length c.implied ≡ length own.implied = ap length c.are_implied in
      let here : 1 + i ≡ suc i = omega arith in
      let labelled : labelled_in (Imply 1) c.implied text ≡ Some s =
      ap (λ k. labelled_in (Imply 1) c.implied (label_text (Imply k))) (sym here)
      ∙ labelled_at Imply (λ _. refl) implies_differ 1 c.implied i s (omega (arith, few, size))
      (ap (λ ss. slice_get ss i) c.are_implied ∙ at) in
      let none : duty_with text (label_all Assume 1 t c.flat.discharge) ≡ None =
      stated_found Assume (λ _. refl) 1 t c.flat.discharge text
      ∙ ap (option_map (λ r. (t, r))) (labelled_none (suc i) 1 c.flat.discharge) in
      let second : duty_with text (label_all Imply 1 t c.implied) ≡ Some (t, s) =
      stated_found Imply (λ _. refl) 1 t c.implied text ∙ ap (option_map (λ r. (t, r))) labelled in (
        c.duties,
        c.are_duties,
        found_in c text
            ∙ ap (λ o. or_else (or_else o (duty_with text (label_all Imply 1 t c.implied)))
            (duty_with text (flat_map (λ k. k.duties) c.duties.clauses))) none
            ∙ ap (λ o. or_else o (duty_with text (flat_map (λ k. k.duties) c.duties.clauses))) second
            ∙ ap (λ u. Some (u, s)) c.is_theory,
      )
