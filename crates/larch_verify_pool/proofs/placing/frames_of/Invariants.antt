use Rattle.std.proofs.Common.{◌≡◌, ◌<◌, drop, length}
use Rattle.larch_term.specs.Place.{at, put}
use Rattle.larch_term.specs.Tree.{Tree}
use Rattle.larch_verify_pool.specs.Pooled.{tree_in}
use Rattle.larch_verify_pool.specs.Places.{plug_in, AreFrames}
use Rattle.larch_verify_pool.proofs.placing.frames_of.Given as goal

abbrev pub invariant-loop-number : goal.invariant-loop-number
invariant-loop-number l = record {
  within : l.here < length l.pool.trees;
  reached : at (tree_in l.pool.trees l.here) (drop l.number-index l.place) ≡ at (tree_in l.pool.trees l.term) l.place;
  frames : AreFrames l.pool.trees l.frames.items;
  plugs : (t : Tree) → plug_in l.pool.trees l.frames.items
      (put (tree_in l.pool.trees l.here) (drop l.number-index l.place) t) ≡ put (tree_in l.pool.trees l.term) l.place t;
}
