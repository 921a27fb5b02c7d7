use Rattle.std.proofs.Common.{◌≡◌, drop}
use Rattle.larch_models_meaning.specs.FiniteModel.{last_among}
use Rattle.larch_models.proofs.sorts.last_named.Given as goal

abbrev pub invariant-loop-values : goal.invariant-loop-values
invariant-loop-values l = last_among (drop l.values-index l.sorts) l.sort ≡ last_among l.sorts l.sort
