use Rattle.larch_verify_clause_rules.proofs.Comparing.{told_observed}
use Rattle.larch_verify_clause_rules.proofs.observed.same_observed.Goals as goal

pub returns-clause-says : goal.returns-clause-says
returns-clause-says c names e =
    told_observed c.args.pool.now c.observed_in.new.pool c.observed_in-2.new.pool c.args.said c.args.sides
    c.args.observer.now c.args.variables.now c.in_ok-left.left c.in_ok-right.right
    c.same_equated.result names c.in_ok-left.ensures.grows c.in_ok-right.ensures.grows c.requires.said c.requires.sides
    c.requires.variables c.requires.observer.1 e
    c.in_ok-left.ensures.tree c.in_ok-right.ensures.tree c.same_equated.ensures
