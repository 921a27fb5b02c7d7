use Rattle.std.proofs.Common.{◌≡◌, ◌==◌, ℕ, inl, inr, Bool, true, false, List, [], ◌∷◌, refl, sym, subst, arith}
use Rattle.larch_base.proofs.Members.{contains_one, contains_cases}
use Rattle.larch_term.specs.OperatorKey.{same_operator}
use Rattle.larch_calculus.specs.Example.{number_sort, nought, plus}
use Rattle.larch_models_meaning.specs.Interpretation.{Within}
use Rattle.larch_models_meaning.specs.Models.{ArgumentsIn, IsClosedUnder}
use Rattle.larch_models_meaning.specs.Examples.{second_taken}
use Rattle.larch_models_meaning.proofs.examples.sets_that_are_closed.Goals as goal

-- the set of 0
abbrev none_but_nought : ℕ → Bool
none_but_nought v = v == 0

is_nought : (v : ℕ) → none_but_nought v ≡ true → v ≡ 0
is_nought v e = grind arith

sums_in : (vs : List ℕ) → Within second_taken.last plus.domain vs
    → ArgumentsIn none_but_nought number_sort plus.domain vs
    → none_but_nought (second_taken.table plus vs) ≡ true
unfolding same_operator
sums_in [] w d = absurd w
sums_in (u ∷ []) w d = absurd w.1
sums_in (u ∷ v ∷ vs) w d =
    subst (λ x. none_but_nought (second_taken.table plus (u ∷ x ∷ vs)) ≡ true) (sym (is_nought v (d.1.0 refl))) refl

closed : IsClosedUnder second_taken number_sort (nought ∷ plus ∷ []) none_but_nought
unfolding same_operator
closed f c vs w d =
    elim (contains_cases nought f (plus ∷ []) c) [
      | inl e ↦ subst (λ f. none_but_nought (second_taken.table f vs) ≡ true) e refl
      | inr o ↦
          subst (λ f. Within second_taken.last f.domain vs → ArgumentsIn none_but_nought number_sort f.domain vs
          → none_but_nought (second_taken.table f vs) ≡ true) (contains_one plus f o) (sums_in vs) w d
    ]

pub returns : goal.returns
returns c h = let wrong : false ≡ true = h none_but_nought closed 1 (omega arith) in cc
