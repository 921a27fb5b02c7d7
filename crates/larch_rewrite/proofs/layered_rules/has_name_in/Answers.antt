use Rattle.std.specs.List.{list_any}
use Rattle.std.proofs.Common.{ap, sym, ◌∙◌}
use Rattle.larch_rewrite.specs.RuleSet.{has_name}
use Rattle.larch_rewrite.proofs.Layers.{named_here, named_more}
use Rattle.larch_rewrite.proofs.layered_rules.has_name_in.Goals as goal

pub returns-then-has_name : goal.returns-then-has_name
returns-then-has_name c =
    sym (named_here (λ layer. layer.value) c.args.name.now c.args.layers.now c.loop-layer.layer-index
    c.layer-item.result c.layer-item.is c.loop-layer-test.true
    (ap (list_any (has_name c.args.name.now)) (sym c.as_ref.ensures) ∙ sym c.has_name.ensures ∙ c.if-has_name.true))

pub loop-layer-preserved : goal.loop-layer-preserved
loop-layer-preserved c =
    named_more (λ layer. layer.value) c.args.name.now c.args.layers.now c.loop-layer.layer-index c.layer-item.result
    c.layer-item.is c.loop-layer-test.true c.loop-layer.invariant
    (ap (list_any (has_name c.args.name.now)) (sym c.as_ref.ensures) ∙ sym c.has_name.ensures ∙ c.if-has_name.false)
