-- Both facts are found, and neither rewrites a variable.
use Rattle.std.proofs.Common.{map, refl, sym, ◌∙◌}
use Rattle.std.proofs.lemmas.Result.{err_from_is_err_and}
use Rattle.larch_complete_pairs.specs.Said.{rule_in}
use Rattle.larch_prove_work.specs.ProveAddingEquation.{sides_in}
use Rattle.larch_prove_work.specs.ProveAddingKeptFacts.{facts_of}
use Rattle.larch_prove_facts.proofs.Among.{among_so, first_unnamed, named_applied, second_unnamed}
use Rattle.larch_prove_facts.proofs.pairs.pairs_of_facts.Goals as goal
use Rattle.larch_prove_facts.specs.Pairs.{pairs_among}
use Rattle.larch_prove_meaning.specs.Steps.{has_name}
use Rattle.larch_prove_work.proofs.ProveSettlingLeaving.{if_answered, if_refused}
use Rattle.larch_prove_work.proofs.Readings.{tells_as}

pub pairs_of_rules-requires-clause-applies : goal.pairs_of_rules-requires-clause-applies
pairs_of_rules-requires-clause-applies c =
    named_applied (has_name c.args.second.now) (facts_of c.args.draft.now.current.facts).rules
    (rule_in c.in_ok-other.other) c.requires.apply c.in_ok-other.ensures.named

pub returns-clause-pairs : goal.returns-clause-pairs
returns-clause-pairs c =
    if_answered _ _ c.pairs_of_rules.result (λ es h.
    among_so c.args.first.now c.args.second.now (facts_of c.args.draft.now.current.facts) (rule_in c.in_ok-rule.rule)
    (rule_in c.in_ok-other.other) c.are_one.result _ c.in_ok-rule.ensures.named c.in_ok-other.ensures.named
    c.are_one.ensures h) c.pairs_of_rules.ensures.pairs

pub returns-clause-refused : goal.returns-clause-refused
returns-clause-refused c =
    let facts = facts_of c.args.draft.now.current.facts in
    if_refused _ _ c.pairs_of_rules.result (λ r h.
    tells_as (pairs_among c.args.first.now c.args.second.now facts) _ r
    (among_so c.args.first.now c.args.second.now facts (rule_in c.in_ok-rule.rule) (rule_in c.in_ok-other.other)
    c.are_one.result _ c.in_ok-rule.ensures.named c.in_ok-other.ensures.named c.are_one.ensures refl) h)
    c.pairs_of_rules.ensures.refused

pub returns-in_err-rule-clause-refused : goal.returns-in_err-rule-clause-refused
returns-in_err-rule-clause-refused c =
    let q = err_from_is_err_and c.from_residual.result c.from_residual.ensures.1 in
    rw (q.1, q.2) (first_unnamed c.args.first.now c.args.second.now (facts_of c.args.draft.now.current.facts)
    c.in_err-rule.field-0.0 c.in_err-rule.ensures.refused)

pub returns-in_err-other-clause-refused : goal.returns-in_err-other-clause-refused
returns-in_err-other-clause-refused c =
    let q = err_from_is_err_and c.from_residual-in_err-other.result c.from_residual-in_err-other.ensures.1 in
    rw (q.1, q.2) (second_unnamed c.args.first.now c.args.second.now (facts_of c.args.draft.now.current.facts)
    (rule_in c.in_ok-rule.rule) c.in_err-other.field-0.0 c.in_ok-rule.ensures.named c.in_err-other.ensures.refused)
