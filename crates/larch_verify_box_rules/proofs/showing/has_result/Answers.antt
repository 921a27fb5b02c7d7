use Rattle.std.proofs.Common.{◌∙◌, ap}
use Rattle.larch_term.specs.Equality.{same_statement}
use Rattle.larch_term.specs.Substitution.{instance_of}
use Rattle.larch_term.specs.Tree.{Tree, app}
use Rattle.larch_calculus.specs.Generation.{constant_terms, only}
use Rattle.larch_verify_meaning.specs.Events.{operators_from}
use Rattle.larch_verify_pool.specs.Pooled.{tree_in}
use Rattle.larch_verify_history.specs.Past.{equated_in, stated_in}
use Rattle.larch_verify_parts.proofs.Numbers.{has_within}
use Rattle.larch_verify_box_rules.specs.Inductions.{equation_with}
use Rattle.larch_verify_box_rules.proofs.Supposed.{alone_is, inductive_later, never_same, told_at}
use Rattle.larch_verify_box_rules.proofs.showing.has_result.Goals as goal

pub returns-in_default-clause-result : goal.returns-in_default-clause-result
returns-in_default-clause-result c =
    let made : Tree =
    app c.args.generator.now (constant_terms (operators_from c.args.known.now.number 1 c.args.known.now.parts)) in
    never_same (stated_in c.args.pool.now c.args.stated.now)
    (instance_of (only c.args.inductive.now.variable.now.name c.args.inductive.now.variable.now.sort made)
    (tree_in c.args.pool.now.trees c.args.inductive.now.sides.left))
    (instance_of (only c.args.inductive.now.variable.now.name c.args.inductive.now.variable.now.sort made)
    (tree_in c.args.pool.now.trees c.args.inductive.now.sides.right))
    (c.in_default.ensures.says c.args.pool.now)

pub is_instance-requires-clause-inductive : goal.is_instance-requires-clause-inductive
is_instance-requires-clause-inductive c =
    inductive_later c.args.pool.now c.made_of.new.pool c.args.inductive.now c.in_ok-made.ensures.grows
    c.requires.inductive

pub is_instance-requires-clause-image : goal.is_instance-requires-clause-image
is_instance-requires-clause-image c =
    has_within c.made_of.new.pool c.in_ok-made.made
    (app c.args.generator.now (constant_terms (operators_from c.args.known.now.number 1 c.args.known.now.parts)))
    c.in_ok-made.ensures.tree

pub returns-clause-result : goal.returns-clause-result
returns-clause-result c =
    let made : Tree =
    app c.args.generator.now (constant_terms (operators_from c.args.known.now.number 1 c.args.known.now.parts)) in
    told_at c.args.pool.now c.made_of.new.pool c.args.inductive.now c.in-Some.sides made c.in_ok-made.made
    c.in_ok-results.results
    c.in_ok-made.ensures.grows c.requires.inductive
    (c.in-Some.ensures.within c.args.pool.now c.requires.stated) c.in_ok-made.ensures.tree
    c.in_ok-results.ensures.instance
    ∙ ap (λ s. same_statement s (equation_with c.args.pool.now c.args.inductive.now made))
    (alone_is (stated_in c.args.pool.now c.args.stated.now) (equated_in c.args.pool.now c.in-Some.sides)
    (c.in-Some.ensures.says c.args.pool.now))
