use Rattle.std.proofs.Common.{◌≡◌, ◌++◌, length}
use Rattle.larch_shorthand.specs.Enumeration.{all_differ}
use Rattle.larch_shorthand.proofs.enumeration.all_differ.Given as goal

-- the statements so far, and those of the elements that are left
abbrev pub invariant-loop-rest : goal.invariant-loop-rest
invariant-loop-rest l = l.statements ++ all_differ l.unequal l.rest ≡ all_differ l.unequal l.elements

abbrev pub decreases-loop-rest : goal.decreases-loop-rest
decreases-loop-rest l = length l.rest
