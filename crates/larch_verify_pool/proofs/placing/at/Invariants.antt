use Rattle.std.proofs.Common.{◌≡◌, ◌<◌, drop, length}
use Rattle.larch_term.specs.Place.{at}
use Rattle.larch_verify_pool.specs.Pooled.{tree_in}
use Rattle.larch_verify_pool.proofs.placing.at.Given as goal

abbrev pub invariant-loop-number : goal.invariant-loop-number
invariant-loop-number l =
    (l.here < length l.pool.trees)
    × (at (tree_in l.pool.trees l.here) (drop l.number-index l.place) ≡ at (tree_in l.pool.trees l.term) l.place)
