-- Operators by their numbers.
use Rattle.std.specs.Prelude.{◌≡◌, ◌<◌, ◌≤◌, ◌+◌, ◌-◌, ◌==◌, ℕ, true, false, cond, All, Contains, List, [], ◌∷◌, map}
use Rattle.std.specs.Prelude.{length, get_or, Option, None, Some, option_and_then, option_map, refl}
use Rattle.std.specs.Bool.{Decides}
use Rattle.std.specs.List.{slice_get}
use Rattle.std.proofs.Common.{arith, ap, ap₂, sym, subst, ◌∙◌, take}
use Rattle.std.proofs.lemmas.List.{take_all}
use Rattle.std.proofs.lemmas.List.Elements.{All-contains, All-get_or, All-more}
use Rattle.std.proofs.lemmas.Option.{slice_get-get_or}
use Rattle.larch_base.specs.ByNumber.{numbered}
use Rattle.larch_term.specs.Equality.{same_operator}
use Rattle.larch_term.specs.Operator.{PlainOperator}
use Rattle.larch_term.specs.OperatorKey.{operator_Decides}
use Rattle.larch_derive.specs.VerifyMeaningDecoding.{each}

parts_same : {Y : Type 0} (o p : Option Y) (os ps : List (Option Y)) → o ∷ os ≡ p ∷ ps → (o ≡ p) × (os ≡ ps)
parts_same o p os ps e = (cc, cc)

-- what is found for each, where something is found for each
pub each_found : {X Y : Type 0} (find : X → Option Y) (xs : List X) (ys : List Y) → map find xs ≡ map Some ys
    → each find xs ≡ Some ys
each_found find [] [] e = refl
each_found find [] (y ∷ ys) e = cc
each_found find (x ∷ xs) [] e = cc
each_found find (x ∷ xs) (y ∷ ys) e =
    let p = parts_same (find x) (Some y) (map find xs) (map Some ys) e in
    ap (option_and_then (λ z. option_map (λ zs. z ∷ zs) (each find xs))) p.0
    ∙ ap (option_map (λ zs. y ∷ zs)) (each_found find xs ys p.1)

not_nought : (n i : ℕ) → n ≡ 1 + i → (n == 0) ≡ false
not_nought n i e = grind (arith, e)

one_less : (n i : ℕ) → n ≡ 1 + i → n - 1 ≡ i
one_less n i e = omega (arith, e)

numbered_as : (own : List PlainOperator) (n i : ℕ) → n ≡ 1 + i → numbered own n ≡ slice_get own i
numbered_as own n i e =
    ap₂ (λ b k. cond b None (slice_get own k)) (not_nought n i e) (one_less n i e)

-- an operator isn't among others than it is itself
pub not_among : (own : List PlainOperator) (f : PlainOperator) (i : ℕ) → length own ≤ i
    → All (λ g. g ≡ f → ⊥) (take i own) → Contains own f → ⊥
not_among own f i le h k =
    All-contains (λ g. g ≡ f → ⊥) own f (subst (λ gs. All (λ g. g ≡ f → ⊥) gs) (take_all i own le) h) k refl

pub others_more : (own : List PlainOperator) (f x : PlainOperator) (i : ℕ) → i < length own → x ≡ get_or own i x
    → same_operator x f ≡ false → All (λ g. g ≡ f → ⊥) (take i own) → All (λ g. g ≡ f → ⊥) (take (i + 1) own)
others_more own f x i lt q e h =
    All-more (λ g. g ≡ f → ⊥) own i x lt h (λ s. differs (operator_Decides x f) e (q ∙ s))
  where
    differs : Decides (same_operator x f) (x ≡ f) → same_operator x f ≡ false → x ≡ f → ⊥
    differs d e s = let k = sym e ∙ d.1 s in cc

-- an operator at a place isn't the theory's
pub not_all_among : (own fs : List PlainOperator) (i : ℕ) (f : PlainOperator) → i < length fs → f ≡ get_or fs i f
    → (Contains own f → ⊥) → All (Contains own) fs → ⊥
not_all_among own fs i f lt q h k = h (subst (Contains own) (sym q) (All-get_or (Contains own) fs i f lt k))

pub numbered_at : (own : List PlainOperator) (n i : ℕ) (x f : PlainOperator) → n ≡ 1 + i → i < length own
    → x ≡ get_or own i x → same_operator x f ≡ true → numbered own n ≡ Some f
numbered_at own n i x f e lt q h =
    numbered_as own n i e
    ∙ (slice_get-get_or own i x lt ∙ ap Some (sym q ∙ (operator_Decides x f).0 h))
