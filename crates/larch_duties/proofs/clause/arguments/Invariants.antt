use Rattle.std.proofs.Common.{◌≡◌, ◌+◌, ◌++◌, drop}
use Rattle.larch_duties_meaning.specs.Duties.{arguments}
use Rattle.larch_duties.proofs.clause.arguments.Given as goal

-- the variables so far, and those of the sorts that are left
abbrev pub invariant-loop-i : goal.invariant-loop-i
invariant-loop-i l = l.arguments.items ++ arguments (l.i + 1) (drop l.i l.sorts) ≡ arguments 1 l.sorts
