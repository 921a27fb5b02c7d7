-- What is known after a step, and what is told of a flat trait in the end.
use Rattle.std.proofs.Common.{◌≡◌, refl, sym, ap, subst, ◌∙◌, ℕ, zero, suc, ◌<◌, ◌≤◌, Bool, true, false, cond, length}
use Rattle.std.proofs.Common.{get_or, set, drop, replicate, List, [], ◌∷◌, Option, Some, None, Result, Ok, Err, arith}
use Rattle.std.proofs.Common.{◌⊎◌, inl, inr}
use Rattle.std.specs.Prelude.{IfSome, is_some, not, option_map, bytes_eq}
use Rattle.larch_base.specs.Answering.{Answers}
use Rattle.larch_base.specs.declared.fault.Fault.{Fault}
use Rattle.larch_raw.specs.declared.equation.RawTrait.{RawTrait}
use Rattle.larch_raw.specs.declared.reference.RawReference.{RawReference}
use Rattle.larch_flat_sources.specs.TraitsItemsRefusal.{cause}
use Rattle.larch_base_meaning.specs.Steps.{after, all_taken}
use Rattle.larch_flat_sources.specs.TraitsItemsRefusalTraitRefusal.{TraitRefusal}
use Rattle.larch_flat_sources.proofs.TraitsItemsSteps.{step_refused, step_taken, told_weaker}
use Rattle.larch_flat_sources.specs.FlatMeaningFlat.{FlatTrait, take_rest}
use Rattle.larch_flat_sources.specs.FlatMeaningGathered.{Gathered, nothing}
use Rattle.larch_flat_sources.specs.FlatMeaningLaws.{gathered_in}
use Rattle.larch_flat_sources.specs.FlatMeaningStops.{Stop, Refused, surely}
use Rattle.larch_flat_gathering.specs.Keeping.{Keeps, Gathering}
use Rattle.larch_flat_sources.specs.Sources.{Table, files_in, name_at}
use Rattle.larch_flat.specs.Known.{Knows, KeepsTold, LeavesFlat, is_known, stop_told}
use Rattle.larch_flat.specs.Parts.{IsFlat, flat_trait, parts_of, with_reference}
use Rattle.larch_flat.proofs.Answering.{answers_surely}
use Rattle.larch_flat.proofs.Files.{gathered_parts, own_parts, stopped_parts}
use Rattle.larch_flat.proofs.Targets.{unfolded}

-- what is answered and kept
pub told_kept : (store : Gathering) (answer : Result Gathered Stop) → KeepsTold store answer
    → (g : Gathered) × (answer ≡ Ok g) × Keeps store g
told_kept store (Ok g) k = (g, refl, k)
told_kept store (Err stop) k = absurd k

-- what is kept is what was left of all
pub all_kept : (store : Gathering) (whole : Result Gathered Stop) (g : Gathered) → Keeps store g → Ok g ≡ whole
    → KeepsTold store whole
all_kept store whole g k e = subst (KeepsTold store) e k

-- the flat trait of a file whose references can't be taken
pub references_refused : (sources : Table) (name : List ℕ) (raw : RawTrait) (o : Option Stop)
    → files_in sources name ≡ Some (Ok raw) → not (bytes_eq raw.name.name name) ≡ false
    → IfSome o (λ stop. all_taken (with_reference sources name) raw.references nothing ≡ Err stop)
    → IfSome o (λ stop. parts_of (flat_trait sources name) ≡ Err stop)
references_refused sources name raw o text named h =
    told_weaker o (λ stop. all_taken (with_reference sources name) raw.references nothing ≡ Err stop)
    (λ stop. parts_of (flat_trait sources name) ≡ Err stop)
    (λ stop e. own_parts sources name raw (unfolded sources name) text named
    ∙ stopped_parts raw (all_taken (with_reference sources name) raw.references nothing) stop e) h

-- and of one whose references are taken
pub rest_told : (sources : Table) (name : List ℕ) (raw : RawTrait) (store : Gathering)
    (result : Result Gathered TraitRefusal) → files_in sources name ≡ Some (Ok raw)
    → not (bytes_eq raw.name.name name) ≡ false
    → KeepsTold store (all_taken (with_reference sources name) raw.references nothing)
    → ((g : Gathered) → Keeps store g → Answers cause result (after (take_rest raw g) (λ t. Ok (gathered_in t))))
    → Answers stop_told result (parts_of (flat_trait sources name))
rest_told sources name raw store result text named kept rest =
    let p = told_kept store (all_taken (with_reference sources name) raw.references nothing) kept in
    subst (Answers stop_told result)
    (sym (own_parts sources name raw (unfolded sources name) text named
    ∙ gathered_parts raw (all_taken (with_reference sources name) raw.references nothing) p.0 p.1))
    (answers_surely result (after (take_rest raw p.0) (λ t. Ok (gathered_in t))) (rest p.0 p.2))

set_here : {A : Type 0} (xs : List A) (i : ℕ) (y d : A) → i < length xs → get_or (set xs i y) i d ≡ y
set_here [] i y d lt = absurd (omega (arith, lt))
set_here (x ∷ xs) zero y d lt = refl
set_here (x ∷ xs) (suc i) y d lt = set_here xs i y d (omega (arith, lt))

-- what stands at a number once another one may be replaced
set_cases : {A : Type 0} (xs : List A) (i j : ℕ) (y d z : A) → i < length xs → get_or (set xs i y) j d ≡ z
    → ((i ≡ j) × (y ≡ z)) ⊎ (get_or xs j d ≡ z)
set_cases [] i j y d z lt e = absurd (omega (arith, lt))
set_cases (x ∷ xs) zero zero y d z lt e = inl (refl, e)
set_cases (x ∷ xs) zero (suc j) y d z lt e = inr e
set_cases (x ∷ xs) (suc i) zero y d z lt e = inr e
set_cases (x ∷ xs) (suc i) (suc j) y d z lt e =
    elim (set_cases xs i j y d z (omega (arith, lt)) e) [ inl p ↦ inl (ap suc p.0, p.1) | inr q ↦ inr q ]

set_length : {A : Type 0} (xs : List A) (i : ℕ) (y : A) → length (set xs i y) ≡ length xs
set_length [] i y = refl
set_length (x ∷ xs) zero y = refl
set_length (x ∷ xs) (suc i) y = ap suc (set_length xs i y)

some_inj : {A : Type 0} (x y : A) → Some x ≡ Some y → x ≡ y
some_inj x y e = cc

-- what is known with one answer more
pub knows_more : (sources : Table) (known : List (Option (Result Gathered Fault))) (number : ℕ)
    (answer : Result Gathered Fault) → Knows sources known → number < length known
    → IsFlat sources (name_at sources number) answer → Knows sources (set known number (Some answer))
knows_more sources known number answer knows lt is = record {
  size = set_length known number (Some answer) ∙ knows.size;
  flat = λ m a e. elim (set_cases known number m (Some answer) None (Some a) lt e) [
    | inl p ↦
        subst (λ k. IsFlat sources (name_at sources k) a) p.0
        (subst (IsFlat sources (name_at sources number)) (some_inj answer a p.1) is)
    | inr q ↦ knows.flat m a q
  ];
}

some_more : {A : Type 0} (xs : List (Option A)) (i j : ℕ) (y : A) → is_some (get_or xs j None) ≡ true
    → is_some (get_or (set xs i (Some y)) j None) ≡ true
some_more [] i j y e = e
some_more (x ∷ xs) zero zero y e = refl
some_more (x ∷ xs) zero (suc j) y e = e
some_more (x ∷ xs) (suc i) zero y e = e
some_more (x ∷ xs) (suc i) (suc j) y e = some_more xs i j y e

-- what was known of is known of still
pub grows_more : (known : List (Option (Result Gathered Fault))) (number m : ℕ) (answer : Result Gathered Fault)
    → is_known known m ≡ true → is_known (set known number (Some answer)) m ≡ true
grows_more known number m answer e = some_more known number m answer e

-- and of the file at hand something is
pub known_here : (known : List (Option (Result Gathered Fault))) (number : ℕ) (answer : Result Gathered Fault)
    → number < length known → is_known (set known number (Some answer)) number ≡ true
known_here known number answer lt = ap is_some (set_here known number (Some answer) None lt)

same_at : {A : Type 0} (n i : ℕ) (x : A) → get_or (replicate n x) i x ≡ x
same_at zero i x = refl
same_at (suc n) zero x = refl
same_at (suc n) (suc i) x = same_at n i x

replicate_length : {A : Type 0} (n : ℕ) (x : A) → length (replicate n x) ≡ n
replicate_length zero x = refl
replicate_length (suc n) x = ap suc (replicate_length n x)

none_some : {A : Type 0} (o : Option A) (x : A) → o ≡ None → o ≡ Some x → ⊥
none_some None x n e = cc
none_some (Some y) x n e = cc

-- nothing is known at first
pub knows_none : (sources : Table) (n : ℕ) → n ≡ length sources → Knows sources (replicate n None)
knows_none sources n e = record {
  size = replicate_length n None ∙ e;
  flat = λ m a q. absurd (none_some (get_or (replicate n None) m None) a (same_at n m None) q);
}

-- what holds of all numbers below one, and of that one
pub below_next : (P : ℕ → Type 0) (n : ℕ) → ((m : ℕ) → m < n → P m) → P n → (m : ℕ) → m < suc n → P m
below_next P n before here m lt = elim (split m n lt) [ inl a ↦ before m a | inr e ↦ subst P (sym e) here ]
  where
    split : (m n : ℕ) → m < suc n → (m < n) ⊎ (m ≡ n)
    split zero zero lt = inr refl
    split zero (suc n) lt = inl (omega arith)
    split (suc m) zero lt = absurd (omega (arith, lt))
    split (suc m) (suc n) lt =
        elim (split m n (omega (arith, lt))) [ inl a ↦ inl (omega (arith, a)) | inr e ↦ inr (ap suc e) ]
