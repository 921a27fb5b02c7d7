use Rattle.std.proofs.Common.{◌∙◌, ap}
use Rattle.larch_verify_meaning.specs.ClauseRules.{holds_of_variable}
use Rattle.larch_verify_pool.specs.Pooled.{operator_in}
use Rattle.larch_verify_history.specs.Past.{equated_in, stated_in}
use Rattle.larch_verify_clause_rules.proofs.Clauses.{not_equation, is_equation}
use Rattle.larch_verify_clause_rules.proofs.generated.holds_of_variable.Goals as goal

pub returns-in_default-clause-says : goal.returns-in_default-clause-says
returns-in_default-clause-says c =
    not_equation (operator_in c.args.pool.now.operators c.args.predicate) c.args.sort.now
    (stated_in c.args.pool.now c.args.stated.now) (c.in_default.ensures.says c.args.pool.now)

pub returns-clause-says : goal.returns-clause-says
returns-clause-says c =
    c.in_ok-holds.ensures.says
    ∙ ap (holds_of_variable (operator_in c.args.pool.now.operators c.args.predicate) c.args.sort.now)
    (is_equation (stated_in c.args.pool.now c.args.stated.now) (equated_in c.args.pool.now c.in-Some.sides)
    (c.in-Some.ensures.says c.args.pool.now))
