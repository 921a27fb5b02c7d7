use Rattle.std.proofs.Common.{◌≡◌, ◌<◌, ℕ, List, length, map, subst, sym, ◌∙◌, ap}
use Rattle.std.specs.List.{remove}
use Rattle.std.specs.Option.{option_map}
use Rattle.larch_term.specs.Tree.{Tree}
use Rattle.larch_verify_meaning.specs.Matching.{argument_name}
use Rattle.larch_verify_pool.specs.Pooled.{Pooled, tree_in}
use Rattle.larch_verify_pool.proofs.Front.{trees_stay}
use Rattle.larch_verify_clause_rules.specs.Naming.{variables_named, variable_term}
use Rattle.larch_verify_clause_rules.specs.Observers.{observation_of, variables_in}
use Rattle.larch_verify_clause_rules.proofs.Comparing.{said_later}
use Rattle.larch_verify_clause_rules.proofs.Placed.{length_numbers, are_variables, variables_are, beside_index}
use Rattle.larch_verify_clause_rules.proofs.Shown.{shows_found}
use Rattle.larch_verify_clause_rules.proofs.Staying.{variables_within}
use Rattle.larch_verify_clause_rules.proofs.observe.shows_same.Goals as goal

pub same_observed-requires-clause-index : goal.same_observed-requires-clause-index
same_observed-requires-clause-index c =
    subst (λ n. c.args.observer.now.index < n)
    (ap length (sym c.domain-domain.ensures)
    ∙ sym (length_numbers c.argument_variables.new.pool.trees c.in_ok-variables.variables.items
    (argument_name (tree_in c.args.pool.now.trees c.args.said.left)) 1 c.domain-domain.result.now
    c.in_ok-variables.ensures.trees)
    ∙ ap length (sym c.deref.ensures.value))
    c.requires.observer.1

pub different_others-requires-clause-variables : goal.different_others-requires-clause-variables
different_others-requires-clause-variables c =
    variables_within c.argument_variables.new.pool c.same_observed.new.pool c.in_ok-variables.variables.items
    c.in_ok-same.ensures.grows
    (are_variables c.argument_variables.new.pool.trees c.in_ok-variables.variables.items
    (variables_named (argument_name (tree_in c.args.pool.now.trees c.args.said.left)) 1 c.domain-domain.result.now)
    c.in_ok-variables.ensures.within c.in_ok-variables.ensures.trees)

pub different_others-requires-clause-index : goal.different_others-requires-clause-index
different_others-requires-clause-index c =
    subst (λ n. c.args.observer.now.index < n)
    (ap length (sym c.domain-domain.ensures)
    ∙ sym (length_numbers c.argument_variables.new.pool.trees c.in_ok-variables.variables.items
    (argument_name (tree_in c.args.pool.now.trees c.args.said.left)) 1 c.domain-domain.result.now
    c.in_ok-variables.ensures.trees))
    c.requires.observer.1

pub returns-clause-says : goal.returns-clause-says
returns-clause-says c =
    let q : Pooled = c.argument_variables.new.pool in
    let r : Pooled = c.same_observed.new.pool in
    let l : Tree = tree_in c.args.pool.now.trees c.args.said.left in
    let vs : List ℕ = c.in_ok-variables.variables.items in
    let ds : List (List ℕ) = c.args.observer.now.operator.domain in
    let t : map (tree_in q.trees) vs ≡ map variable_term (variables_named (argument_name l) 1 ds) =
    c.in_ok-variables.ensures.trees
    ∙ ap (λ xs. map variable_term (variables_named (argument_name l) 1 xs)) c.domain-domain.ensures in
    let u : map (tree_in r.trees) vs ≡ map variable_term (variables_named (argument_name l) 1 ds) =
    trees_stay q.trees r.trees vs c.in_ok-same.ensures.grows.1 c.in_ok-variables.ensures.within ∙ t in
    shows_found (tree_in c.args.pool.now.trees c.args.sides.left) (tree_in c.args.pool.now.trees c.args.sides.right) l
    (tree_in c.args.pool.now.trees c.args.said.right) (observation_of c.args.observer.now)
    (remove (variables_in r.trees vs) c.args.observer.now.index)
    (option_map (λ ws. variables_in r.trees ws.items) c.in_ok-others.others)
    (sym c.if-not-same.false
    ∙ said_later c.args.pool.now q c.args.said c.args.sides (observation_of c.args.observer.now)
    (argument_name l) c.in_ok-same.same c.in_ok-variables.ensures.grows c.requires.said c.requires.sides
    (c.in_ok-same.ensures.says (argument_name l) (ap (map (tree_in q.trees)) c.deref.ensures.value ∙ t)))
    (ap (λ ws. remove ws c.args.observer.now.index)
    (variables_are r.trees vs (variables_named (argument_name l) 1 ds) u)
    ∙ sym (beside_index (argument_name l) c.args.observer.now.index ds c.requires.observer.1))
    c.in_ok-others.ensures.says
