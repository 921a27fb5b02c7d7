use Rattle.std.proofs.Common.{◌≡◌, ◌+◌, ◌++◌, drop}
use Rattle.larch_calculus.specs.Generation.{place_name}
use Rattle.larch_calculus.specs.Observation.{arguments_with}
use Rattle.larch_term.specs.Tree.{list_of}
use Rattle.larch_prove_plans.proofs.same_shown.arguments_with.Given as goal

-- the arguments so far, before those of the places that are left
abbrev pub invariant-loop-index : goal.invariant-loop-index
invariant-loop-index l =
    l.arguments.items ++ list_of (arguments_with place_name (l.observation.index + 1) l.term (l.index + 1)
    (drop l.index l.observation.observer.domain))
    ≡ list_of (arguments_with place_name (l.observation.index + 1) l.term 1 l.observation.observer.domain)
