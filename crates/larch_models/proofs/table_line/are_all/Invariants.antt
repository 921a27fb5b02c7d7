use Rattle.std.proofs.Common.{◌≡◌, ◌*◌, drop}
use Rattle.larch_models_meaning.specs.FiniteModel.{argument_lists, last_among}
use Rattle.larch_models_meaning.specs.Standard.{standard_last}
use Rattle.larch_models.proofs.table_line.are_all.Given as goal

abbrev pub invariant-loop-sort : goal.invariant-loop-sort
invariant-loop-sort l =
    l.product * argument_lists (standard_last (last_among l.sorts)) (drop l.sort-index l.domain)
    ≡ argument_lists (standard_last (last_among l.sorts)) l.domain
