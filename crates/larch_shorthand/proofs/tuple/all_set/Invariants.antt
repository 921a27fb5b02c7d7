use Rattle.std.proofs.Common.{◌≡◌, ◌++◌, [], length}
use Rattle.larch_shorthand.specs.Tuple.{all_set}
use Rattle.larch_shorthand.proofs.tuple.all_set.Given as goal

-- the statements so far, and those of the fields that are left
abbrev pub invariant-loop-rest : goal.invariant-loop-rest
invariant-loop-rest l =
    l.statements ++ all_set l.make l.whole l.before.items l.rest ≡ all_set l.make l.whole [] l.components

abbrev pub decreases-loop-rest : goal.decreases-loop-rest
decreases-loop-rest l = length l.rest
