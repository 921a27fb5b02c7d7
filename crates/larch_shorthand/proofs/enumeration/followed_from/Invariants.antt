use Rattle.std.proofs.Common.{◌≡◌, ◌++◌, drop}
use Rattle.larch_shorthand.specs.Enumeration.{followed_from}
use Rattle.larch_shorthand.proofs.enumeration.followed_from.Given as goal

-- the statements so far, and those of the elements that are left
abbrev pub invariant-loop-next : goal.invariant-loop-next
invariant-loop-next l =
    l.statements ++ followed_from l.successor l.last (drop l.next-index l.others)
    ≡ followed_from l.successor l.first l.others
