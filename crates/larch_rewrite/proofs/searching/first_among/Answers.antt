use Rattle.std.proofs.Common.{map, subst}
use Rattle.larch_rewrite_step.specs.RewriteMatchSearch.{IsFirst}
use Rattle.larch_store.specs.Layers.{join_layers}
use Rattle.larch_store.specs.Numbered.{term_of}
use Rattle.larch_rewrite.specs.RuleSet.{rule_of}
use Rattle.larch_rewrite.proofs.Found.{found_left}
use Rattle.larch_rewrite.proofs.searching.first_among.Goals as goal

pub returns-in-Some-clause-first : goal.returns-in-Some-clause-first
returns-in-Some-clause-first c =
    found_left (join_layers (map (λ layer. layer.value) c.args.earlier.now)) c.args.last.now (term_of c.args.term.now)
    c.in-Some.found
    (subst (IsFirst (map rule_of (join_layers (map (λ layer. layer.value) c.args.earlier.now)))
    (term_of c.args.term.now)) c.in-Some.is c.in_ok-found.ensures.first)
