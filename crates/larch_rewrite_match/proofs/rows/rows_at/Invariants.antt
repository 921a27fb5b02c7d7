use Rattle.larch_rewrite_match.proofs.RowSteps.{AreRows}
use Rattle.larch_rewrite_match.proofs.rows.rows_at.Given as goal

-- the rows so far are rules
abbrev pub invariant-loop-index : goal.invariant-loop-index
invariant-loop-index l = AreRows l.sort l.index l.rows
