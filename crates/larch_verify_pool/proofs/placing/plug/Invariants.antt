use Rattle.std.proofs.Common.{◌≡◌, ◌<◌, length}
use Rattle.larch_verify_pool.specs.Pooled.{tree_in, Grows}
use Rattle.larch_verify_pool.specs.Places.{plug_in, AreFrames}
use Rattle.larch_verify_pool.proofs.placing.plug.Given as goal

abbrev pub invariant-loop-frame : goal.invariant-loop-frame
invariant-loop-frame l = record {
  within : l.here < length l.pool.trees;
  grows : Grows l.fn.pool l.pool;
  operators : l.pool.operators ≡ l.fn.pool.operators;
  frames : AreFrames l.fn.pool.trees l.frames.items;
  plugs : plug_in l.fn.pool.trees l.frames.items (tree_in l.pool.trees l.here)
      ≡ plug_in l.fn.pool.trees l.fn.frames.items (tree_in l.fn.pool.trees l.by);
}

abbrev pub decreases-loop-frame : goal.decreases-loop-frame
decreases-loop-frame l = length l.frames.items
