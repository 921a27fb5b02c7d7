use Rattle.std.proofs.Common.{◌≡◌, ◌<◌, ◌∷◌, [], ◌++◌, length, Some, ◌∙◌, arith}
use Rattle.std.proofs.lemmas.Grind.{common_steps}
use Rattle.std.proofs.lemmas.List.Elements.{All-pop}
use Rattle.std.proofs.lemmas.Option.{slice_get_within}
use Rattle.larch_verify_pool.specs.declared.placing.Frame.{Frame}
use Rattle.larch_verify_pool.proofs.Front.{grows_trans}
use Rattle.larch_verify_pool.proofs.Placed.{plug_less}
use Rattle.larch_verify_pool.proofs.placing.plug.Goals as goal

pub loop-frame-preserved : goal.loop-frame-preserved
loop-frame-preserved c =
    let p : c.loop-frame.frames.items ≡ c.pop.new.self.items ++ c.in-Some.frame ∷ [] = grind (arith, common_steps) in
    let a =
    All-pop (λ (g : Frame). g.node < length c.args.pool.now.trees) c.loop-frame.frames.items c.pop.new.self.items
    (Some c.in-Some.frame) p c.loop-frame.invariant.frames in
    record {
      within = slice_get_within c.refit.new.pool.trees c.in_ok-here.here _ c.in_ok-here.ensures.tree;
      grows =
          grows_trans c.args.pool.now c.loop-frame.pool c.refit.new.pool c.loop-frame.invariant.grows
          c.in_ok-here.ensures.grows;
      operators = c.in_ok-here.ensures.operators ∙ c.loop-frame.invariant.operators;
      frames = a.0;
      plugs =
          plug_less c.args.pool.now.trees c.loop-frame.pool.trees c.refit.new.pool.trees c.loop-frame.frames.items
          c.pop.new.self.items c.in-Some.frame c.loop-frame.here c.in_ok-here.here _
          c.loop-frame.invariant.grows.1 a.1 p c.in_ok-here.ensures.tree c.loop-frame.invariant.plugs;
    }
