use Rattle.std.proofs.Common.{◌≡◌, ℕ, ◌+◌, ◌<◌, List, ◌∷◌, [], ◌++◌, length, drop, get_or, Some, sym, subst, arith}
use Rattle.std.proofs.lemmas.Grind.{common_steps}
use Rattle.std.proofs.lemmas.List.{drop_more}
use Rattle.std.proofs.lemmas.List.Elements.{All-push}
use Rattle.larch_term.specs.Place.{put}
use Rattle.larch_term.specs.Tree.{Tree}
use Rattle.larch_verify_pool.specs.Pooled.{tree_in}
use Rattle.larch_verify_pool.specs.Places.{argument_of, plug_in, AreFrames}
use Rattle.larch_verify_pool.specs.declared.placing.Frame.{Frame}
use Rattle.larch_verify_pool.proofs.Placed.{down_at, down_put}
use Rattle.larch_verify_pool.proofs.placing.frames_of.Goals as goal

pub loop-number-preserved : goal.loop-number-preserved
loop-number-preserved c =
    let k : ℕ = get_or c.args.place.now c.loop-number.number-index 0 in
    let f : Frame = record { node = c.loop-number.here; argument = k } in
    let e : drop c.loop-number.number-index c.args.place.now
    ≡ k ∷ drop (c.loop-number.number-index + 1) c.args.place.now =
    drop_more c.args.place.now c.loop-number.number-index 0 c.loop-number-test.true in
    let a : argument_of (tree_in c.args.pool.now.trees c.loop-number.here) k
    ≡ Some (tree_in c.args.pool.now.trees c.in-Some.next) = sym c.in-Some.ensures.tree in
    let p : c.push.new.self.items ≡ c.loop-number.frames.items ++ f ∷ [] = grind (arith, common_steps) in
    record {
      within = c.in-Some.ensures.some;
      reached =
          down_at (tree_in c.args.pool.now.trees c.loop-number.here) (tree_in c.args.pool.now.trees c.in-Some.next)
          (tree_in c.args.pool.now.trees c.args.term) _ _ _ k e a c.loop-number.invariant.reached;
      frames =
          subst (AreFrames c.args.pool.now.trees) (sym p)
          (All-push (λ (g : Frame). g.node < length c.args.pool.now.trees) c.loop-number.frames.items f
          c.loop-number.invariant.frames c.loop-number.invariant.within);
      plugs =
          subst
          (λ (xs : List Frame). (t : Tree)
          → plug_in c.args.pool.now.trees xs
          (put (tree_in c.args.pool.now.trees c.in-Some.next)
          (drop (c.loop-number.number-index + 1) c.args.place.now) t)
          ≡ put (tree_in c.args.pool.now.trees c.args.term) c.args.place.now t)
          (sym p)
          (down_put c.args.pool.now.trees c.loop-number.frames.items f (tree_in c.args.pool.now.trees c.in-Some.next)
          (tree_in c.args.pool.now.trees c.args.term) (drop c.loop-number.number-index c.args.place.now)
          (drop (c.loop-number.number-index + 1) c.args.place.now) c.args.place.now e a
          c.loop-number.invariant.plugs);
    }
