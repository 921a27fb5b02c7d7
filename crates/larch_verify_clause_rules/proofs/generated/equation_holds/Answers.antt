use Rattle.std.proofs.Common.{subst}
use Rattle.larch_term.specs.Tree.{var}
use Rattle.larch_verify_pool.specs.Pooled.{HasTree}
use Rattle.larch_verify_clause_rules.proofs.Clauses.{holds_told}
use Rattle.larch_verify_clause_rules.proofs.generated.equation_holds.Goals as goal

pub returns-clause-says : goal.returns-clause-says
returns-clause-says c =
    holds_told c.args.pool.now c.var.new.self c.apply_to.new.pool c.truth_in.new.pool c.args.predicate c.in_ok-name.name
    c.args.sort.now c.args.sides c.in_ok-variable.variable c.in_ok-left.left c.in_ok-right.right
    c.same_equated.result c.in_ok-variable.ensures.grows c.in_ok-left.ensures.grows c.in_ok-right.ensures.grows
    c.requires.predicate c.requires.sides c.in_ok-name.ensures
    (subst (λ s. HasTree c.var.new.self c.in_ok-variable.variable (var c.in_ok-name.name s)) c.in_ok-sort.ensures
    c.in_ok-variable.ensures.tree)
    c.in_ok-left.ensures.tree c.in_ok-right.ensures.tree c.same_equated.ensures
