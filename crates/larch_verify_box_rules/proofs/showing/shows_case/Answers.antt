use Rattle.std.proofs.Common.{sym, ◌∙◌, ap}
use Rattle.larch_term.specs.Equality.{same_statement}
use Rattle.larch_term.specs.Tree.{Tree, app}
use Rattle.larch_calculus.specs.Generation.{constant_terms}
use Rattle.larch_verify_meaning.specs.Events.{operators_from}
use Rattle.larch_verify_meaning.specs.Matching.{has_constants}
use Rattle.larch_verify_pool.specs.Pooled.{tree_in}
use Rattle.larch_verify_history.specs.Past.{box_in, stated_in}
use Rattle.larch_verify_history.proofs.Staying.{stated_same}
use Rattle.larch_verify_box_rules.proofs.Boxes.{are_constants}
use Rattle.larch_verify_box_rules.proofs.Generators.{wrong_parts, right_case}
use Rattle.larch_verify_box_rules.proofs.Supposed.{inductive_later, with_same}
use Rattle.larch_verify_box_rules.proofs.showing.shows_case.Goals as goal

pub returns-then-not-has_constants-clause-shows : goal.returns-then-not-has_constants-clause-shows
returns-then-not-has_constants-clause-shows c =
    wrong_parts c.args.inductive.now.variable.now (tree_in c.args.pool.now.trees c.args.inductive.now.sides.left)
    (tree_in c.args.pool.now.trees c.args.inductive.now.sides.right)
    c.args.generator.now (box_in c.args.pool.now c.args.known.now, stated_in c.args.pool.now c.args.stated.now)
    c.has_constants.result
    (c.has_constants.ensures c.args.pool.now
    ∙ ap (has_constants (box_in c.args.pool.now c.args.known.now)) c.domain.ensures)
    c.if-not-has_constants.true

pub supposes_cases-requires-clause-constants : goal.supposes_cases-requires-clause-constants
supposes_cases-requires-clause-constants c =
    are_constants (box_in c.args.pool.now c.args.known.now) c.domain.result.now
    (sym (c.has_constants.ensures c.args.pool.now) ∙ c.if-not-has_constants.false)

pub has_result-requires-clause-inductive : goal.has_result-requires-clause-inductive
has_result-requires-clause-inductive c =
    inductive_later c.args.pool.now c.supposes_cases.new.pool c.args.inductive.now c.in_ok-supposes.ensures.grows
    c.requires.inductive

pub returns-clause-shows : goal.returns-clause-shows
returns-clause-shows c =
    let made : Tree =
    app c.args.generator.now (constant_terms (operators_from c.args.known.now.number 1 c.args.known.now.parts)) in
    right_case c.args.inductive.now.variable.now (tree_in c.args.pool.now.trees c.args.inductive.now.sides.left)
    (tree_in c.args.pool.now.trees c.args.inductive.now.sides.right)
    c.args.generator.now (box_in c.args.pool.now c.args.known.now, stated_in c.args.pool.now c.args.stated.now)
    c.has_constants.result c.in_ok-supposes.supposes c.in_ok-results.results
    (c.has_constants.ensures c.args.pool.now
    ∙ ap (has_constants (box_in c.args.pool.now c.args.known.now)) c.domain.ensures)
    c.if-not-has_constants.false c.in_ok-supposes.ensures.supposes c.if-not-supposes.false
    (c.in_ok-results.ensures.result
    ∙
    (λ i. same_statement (stated_same c.args.pool.now c.supposes_cases.new.pool c.args.stated.now
    c.in_ok-supposes.ensures.grows c.requires.stated i)
    (with_same c.args.pool.now c.supposes_cases.new.pool c.args.inductive.now made c.in_ok-supposes.ensures.grows
    c.requires.inductive i)))
