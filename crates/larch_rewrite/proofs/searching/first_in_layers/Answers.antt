use Rattle.std.proofs.Common.{Some, rules, ap, map, subst, ◌∙◌}
use Rattle.larch_rewrite_step.specs.RewriteMatchSearch.{IsFirst}
use Rattle.larch_store.specs.Numbered.{term_of}
use Rattle.larch_rewrite.specs.RuleSet.{rule_of}
use Rattle.larch_rewrite.proofs.Found.{found_here, found_later}
use Rattle.larch_rewrite.proofs.searching.first_in_layers.Goals as goal

pub returns-in-Some-clause-first : goal.returns-in-Some-clause-first
returns-in-Some-clause-first c =
    found_here (λ layer. layer.value) c.args.layers.now c.loop-layer.layer-index c.layer-item.result
    (term_of c.args.term.now) c.in-Some.found c.layer-item.is c.loop-layer-test.true c.loop-layer.invariant
    (subst (λ rs. IsFirst rs (term_of c.args.term.now) (Some c.in-Some.found))
    (c.table.ensures ∙ ap (map rule_of) c.as_ref.ensures)
    (subst (IsFirst c.table.result.now (term_of c.args.term.now)) c.in-Some.is c.in_ok-found.ensures.first))

pub loop-layer-preserved : goal.loop-layer-preserved
loop-layer-preserved c =
    found_later (λ layer. layer.value) c.args.layers.now c.loop-layer.layer-index c.layer-item.result
    (term_of c.args.term.now) c.as_ref.result.now c.table.result.now c.layer-item.is c.loop-layer-test.true
    c.loop-layer.invariant c.as_ref.ensures c.table.ensures (search rules)
