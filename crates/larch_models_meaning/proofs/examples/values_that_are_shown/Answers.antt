use Rattle.std.proofs.Common.{◌≡◌, min, [], ◌∷◌, refl, sym, ◌∙◌, arith}
use Rattle.std.proofs.Math.Nat.{min-eq_right}
use Rattle.larch_term.specs.OperatorKey.{same_operator}
use Rattle.larch_calculus.specs.Example.{plus}
use Rattle.larch_models_meaning.proofs.examples.values_that_are_shown.Goals as goal

-- at its second place, with 0 at the first
pub returns : goal.returns
unfolding same_operator
returns c u v lu lv h =
    let shown : min 1 u ≡ min 1 v =
    h (record { observer = plus; place = 2 }) (1, omega arith, refl) (0 ∷ 0 ∷ []) (omega arith, (omega arith, tt)) in
    sym (min-eq_right lu) ∙ shown ∙ min-eq_right lv
