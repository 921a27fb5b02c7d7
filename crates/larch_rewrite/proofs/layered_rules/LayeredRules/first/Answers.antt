use Rattle.std.proofs.Common.{IfOk, ◌++◌, map, subst, ◌∙◌}
use Rattle.larch_rewrite_step.specs.RewriteMatchSearch.{IsFirst}
use Rattle.larch_store.specs.Layers.{join_layers}
use Rattle.larch_store.specs.Numbered.{term_of}
use Rattle.larch_rewrite.specs.RuleSet.{rule_of}
use Rattle.larch_rewrite.proofs.layered_rules.LayeredRules.first.Goals as goal

pub returns-clause-first : goal.returns-clause-first
returns-clause-first c =
    subst (λ es. IfOk c.first_among.result (IsFirst (map rule_of es) (term_of c.args.term.now)))
    ((λ i. join_layers (map (λ layer. layer.value) (c.as_slice.ensures.value i)) ++ c.as_ref-last.ensures i)
    ∙ c.self.view_is) c.first_among.ensures.first
