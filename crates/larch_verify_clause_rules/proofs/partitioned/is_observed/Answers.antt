use Rattle.std.proofs.Common.{◌<◌, length, map, subst, sym, ◌∙◌, ap}
use Rattle.larch_calculus.specs.Generation.{place_name}
use Rattle.larch_verify_pool.specs.Pooled.{tree_in}
use Rattle.larch_verify_clause_rules.specs.Naming.{variables_named, variable_term}
use Rattle.larch_verify_clause_rules.specs.Observers.{observation_of}
use Rattle.larch_verify_clause_rules.proofs.Comparing.{shown_later}
use Rattle.larch_verify_clause_rules.proofs.Placed.{length_numbers}
use Rattle.larch_verify_clause_rules.proofs.partitioned.is_observed.Goals as goal

pub same_observed-requires-clause-index : goal.same_observed-requires-clause-index
same_observed-requires-clause-index c =
    subst (λ n. c.args.observer.now.index < n)
    (ap length (sym c.domain.ensures)
    ∙ sym (length_numbers c.place_variables.new.pool.trees c.in_ok-variables.variables.items place_name 1
    c.domain.result.now c.in_ok-variables.ensures.trees) ∙ ap length (sym c.deref.ensures.value))
    c.requires.observer.1

pub returns-clause-says : goal.returns-clause-says
returns-clause-says c =
    shown_later c.args.pool.now c.place_variables.new.pool c.args.said c.args.sides
    (observation_of c.args.observer.now) c.in_ok-same.same c.in_ok-variables.ensures.grows c.requires.said
    c.requires.sides
    (c.in_ok-same.ensures.says place_name
    (ap (map (tree_in c.place_variables.new.pool.trees)) c.deref.ensures.value ∙ c.in_ok-variables.ensures.trees
    ∙ ap (λ ds. map variable_term (variables_named place_name 1 ds)) c.domain.ensures))
