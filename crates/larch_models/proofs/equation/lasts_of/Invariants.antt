use Rattle.std.proofs.Common.{◌≡◌, take}
use Rattle.std.specs.Prelude.{map}
use Rattle.larch_models_meaning.specs.FiniteModel.{last_among}
use Rattle.larch_models_meaning.specs.Standard.{standard_last}
use Rattle.larch_models.proofs.equation.lasts_of.Given as goal

abbrev pub invariant-loop-variable : goal.invariant-loop-variable
invariant-loop-variable l =
    l.lasts ≡ map (λ w. standard_last (last_among l.sorts) w.sort) (take l.variable-index l.variables)
