use Rattle.std.proofs.Common.{◌+◌, ◌*◌}
use Rattle.larch_term.specs.Tree.{nodes}
use Rattle.larch_methods.proofs.conjunction.+join.Given as goal

abbrev pub decreases-join : goal.decreases-join
decreases-join l = 2 * nodes l.goal.now + 1

abbrev pub decreases-join_both : goal.decreases-join_both
decreases-join_both l = 2 * nodes l.goal.now
