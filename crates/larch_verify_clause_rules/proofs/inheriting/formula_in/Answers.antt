use Rattle.std.proofs.Common.{map, None, ◌∙◌, ap, subst}
use Rattle.larch_term.specs.Tree.{app, forest_of}
use Rattle.larch_verify_pool.specs.Pooled.{operator_in, tree_in, HasTree}
use Rattle.larch_verify_clause_rules.specs.Inheriting.{holding_of, with_terms}
use Rattle.larch_calculus.specs.Generation.{place_name}
use Rattle.larch_verify_clause_rules.specs.Naming.{variables_named, variable_term}
use Rattle.larch_verify_clause_rules.proofs.Generators.{formula_made}
use Rattle.larch_verify_clause_rules.proofs.inheriting.formula_in.Goals as goal

pub returns-clause-tree : goal.returns-clause-tree
returns-clause-tree c =
    formula_made c.args.pool.now c.place_variables.new.pool c.premise_in.new.pool c.apply.new.self c.apply_to.new.pool
    c.following_from.new.pool
    c.args.predicate c.args.sort.now c.args.generator.now c.in_ok-variables.variables.items c.in_ok-premise.premise
    c.in_ok-made.made c.in_ok-holds.holds c.in_ok-formula.formula
    c.in_ok-variables.ensures.grows c.in_ok-premise.ensures.grows c.in_ok-made.ensures.grows c.in_ok-holds.ensures.grows
    c.requires.predicate c.requires.generator
    c.in_ok-variables.ensures.within
    (c.in_ok-variables.ensures.trees
    ∙ ap (λ ds. map variable_term (variables_named place_name 1 ds)) c.domain.ensures)
    c.in_ok-premise.ensures.within
    (c.in_ok-premise.ensures.says ∙ ap
    (λ vs. with_terms None (holding_of
    (operator_in c.place_variables.new.pool.operators c.args.predicate) c.args.sort.now
    (map (tree_in c.place_variables.new.pool.trees) vs))) c.deref.ensures.value)
    (subst (λ vs. HasTree c.apply.new.self c.in_ok-made.made
    (app (operator_in c.premise_in.new.pool.operators c.args.generator.now.number)
    (forest_of (map (tree_in c.premise_in.new.pool.trees) vs)))) c.from_vec.ensures c.in_ok-made.ensures.tree)
    c.in_ok-holds.ensures.tree c.in_ok-formula.ensures.tree
