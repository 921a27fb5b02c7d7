use Rattle.std.proofs.Common.{◌≡◌, []}
use Rattle.larch_pairs.specs.Resolved.{resolve}
use Rattle.larch_pairs.specs.Unify.{unify_from}
use Rattle.larch_pairs.proofs.Later.{unless_large}
use Rattle.larch_pairs.proofs.unifier.unify_from.Given as goal

-- unless a bound term is too large by now, what is left to do gives what was to be done
abbrev pub invariant-loop-asked : goal.invariant-loop-asked
invariant-loop-asked l =
    unless_large (resolve l.bound) (unify_from l.left l.asked (resolve l.bound)) ≡ unify_from l.fn.count l.fn.demand []

abbrev pub decreases-loop-asked : goal.decreases-loop-asked
decreases-loop-asked l = l.left
