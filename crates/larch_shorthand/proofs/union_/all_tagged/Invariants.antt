use Rattle.std.proofs.Common.{◌≡◌, take, map}
use Rattle.larch_shorthand.specs.Union.{is_tagged}
use Rattle.larch_shorthand.proofs.union_.all_tagged.Given as goal

-- the statements so far
abbrev pub invariant-loop-case : goal.invariant-loop-case
invariant-loop-case l = l.statements ≡ map (is_tagged l.tag) (take l.case-index l.cases)
