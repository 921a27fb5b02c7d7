use Rattle.std.proofs.Common.{◌≡◌, take}
use Rattle.std.specs.Prelude.{map}
use Rattle.larch_models_meaning.specs.FiniteModel.{last_among}
use Rattle.larch_models_meaning.specs.Standard.{standard_last}
use Rattle.larch_models.proofs.sorts.last_values.Given as goal

abbrev pub invariant-loop-sort : goal.invariant-loop-sort
invariant-loop-sort l = l.lasts ≡ map (standard_last (last_among l.sorts)) (take l.sort-index l.named)
