use Rattle.std.proofs.Common.{◌≡◌, drop}
use Rattle.larch_models.specs.Tables.{values_for}
use Rattle.larch_models.proofs.maker.values_for.Given as goal

abbrev pub invariant-loop-table : goal.invariant-loop-table
invariant-loop-table l = values_for (drop l.table-index l.tables) l.operator ≡ values_for l.tables l.operator
