use Rattle.std.proofs.Common.{◌≡◌, take, map}
use Rattle.larch_shorthand.specs.Union.{is_back}
use Rattle.larch_shorthand.proofs.union_.all_back.Given as goal

-- the statements so far
abbrev pub invariant-loop-case : goal.invariant-loop-case
invariant-loop-case l = l.statements ≡ map is_back (take l.case-index l.cases)
