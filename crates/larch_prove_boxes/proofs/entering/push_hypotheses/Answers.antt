use Rattle.std.specs.Prelude.{◌+◌, ◌<◌, [], length}
use Rattle.std.specs.List.{AllZip}
use Rattle.std.proofs.Common.{rules, subst, sym, take}
use Rattle.larch_derive.specs.Predicates.{Extends, HasStatement}
use Rattle.larch_derive.proofs.Growth.{extends_grows, extends_refl}
use Rattle.larch_prove_invariant.proofs.DeriveBoxesSupposing.{grown_open}
use Rattle.larch_prove_boxes.proofs.Hypotheses.{said_further}
use Rattle.larch_prove_boxes.proofs.entering.push_hypotheses.Goals as goal

pub loop-index-init : goal.loop-index-init
loop-index-init c x e o = (
  extends_refl _,
  subst (λ ns. AllZip (λ s n. HasStatement c.args.builder.now n s) [] ns) (sym c.new-lines.ensures) tt,
)

pub loop-index-preserved : goal.loop-index-preserved
loop-index-preserved c x e o =
    let so_far = c.loop-index.invariant x e o in
    let hs = c.args.hypotheses.now in
    let there = grown_open _ _ x hs (extends_grows _ _ so_far.0) o in
    let lt : c.loop-index.index < length hs = search rules in
    subst (λ ns. Extends c.args.builder.now c.push_hyp.new.builder
    × AllZip (λ s n. HasStatement c.push_hyp.new.builder n s) (take (c.loop-index.index + 1) hs) ns)
    (sym c.in_ok-push.ensures.ok)
    (said_further _ _ _ hs _ c.in_ok-line.line _ lt so_far
    (λ s q. c.in_ok-line.ensures.says x hs s e there q) (λ s q. c.in_ok-line.ensures.extends x hs s e there q))
