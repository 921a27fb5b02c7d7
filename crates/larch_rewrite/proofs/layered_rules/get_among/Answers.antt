use Rattle.std.specs.Prelude.{◌≡◌, ◌-◌, ◌<◌, ◌≤◌, ◌++◌, drop, length, map, slice_get}
use Rattle.std.proofs.Common.{◌+◌, ap, subst, sym, ◌∙◌}
use Rattle.larch_store.specs.Layers.{join_layers}
use Rattle.larch_rewrite.proofs.Layers.{got_further, got_here}
use Rattle.larch_rewrite.proofs.layered_rules.get_among.Goals as goal

pub returns-then-place-count : goal.returns-then-place-count
returns-then-place-count c =
    let k = c.len-count.ensures ∙ ap length c.as_ref-layer.ensures in
    c.get.ensures ∙ ap (λ es. slice_get es c.loop-layer.place) c.as_ref-layer.ensures
    ∙ sym (got_here (λ layer. layer.value) c.args.earlier.now c.args.last.now c.loop-layer.layer-index
    c.loop-layer.place c.layer-item.result c.layer-item.is c.loop-layer-test.true
    (subst (λ n. c.loop-layer.place < n) k c.if-place-count.true))
    ∙ sym c.loop-layer.invariant

pub loop-layer-preserved : goal.loop-layer-preserved
loop-layer-preserved c =
    let k = c.len-count.ensures ∙ ap length c.as_ref-layer.ensures in
    let rest = drop (c.loop-layer.layer-index + 1) c.args.earlier.now in
    c.loop-layer.invariant
    ∙ got_further (λ layer. layer.value) c.args.earlier.now c.args.last.now c.loop-layer.layer-index
    c.loop-layer.place c.layer-item.result c.layer-item.is c.loop-layer-test.true
    (subst (λ n. n ≤ c.loop-layer.place) k c.if-place-count.false)
    ∙ ap (λ n. slice_get (join_layers (map (λ layer. layer.value) rest) ++ c.args.last.now)
    (c.loop-layer.place - n)) (sym k)
