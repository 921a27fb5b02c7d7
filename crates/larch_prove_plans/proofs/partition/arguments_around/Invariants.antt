use Rattle.std.proofs.Common.{◌≡◌, ◌+◌, ◌++◌, drop}
use Rattle.larch_prove_meaning.specs.Plans.{arguments_around}
use Rattle.larch_term.specs.Tree.{list_of}
use Rattle.larch_prove_plans.proofs.partition.arguments_around.Given as goal

-- the arguments so far, before those of the places that are left
abbrev pub invariant-loop-i : goal.invariant-loop-i
invariant-loop-i l =
    l.arguments.items ++ list_of (arguments_around (l.observation.index + 1) l.term (l.i + 1)
    (drop l.i l.observation.observer.domain) (drop l.next l.constants))
    ≡ list_of (arguments_around (l.observation.index + 1) l.term 1 l.observation.observer.domain l.constants)
