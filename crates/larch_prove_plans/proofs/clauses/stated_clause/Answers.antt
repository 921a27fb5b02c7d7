use Rattle.std.proofs.Common.{sym, ◌∙◌}
use Rattle.std.specs.List.{position_from}
use Rattle.larch_term.specs.Statement.{statement_zero}
use Rattle.larch_prove_plans.specs.ClauseGoals.{generates}
use Rattle.larch_prove_plans.proofs.Generating.{first_here, generated_at}
use Rattle.larch_prove_plans.proofs.clauses.stated_clause.Goals as goal

pub returns-then-generates-clause-first : goal.returns-then-generates-clause-first
returns-then-generates-clause-first c =
    first_here (generates c.args.sort.now) c.args.statements.now c.loop-statement.number
    c.loop-statement.statement-index c.statement-item.result
    (position_from (generates c.args.sort.now) 1 c.args.statements.now) c.loop-statement-test.true c.statement-item.is
    (sym c.generates.ensures ∙ c.if-generates.true) c.loop-statement.invariant.first

pub returns-then-generates-clause-clause : goal.returns-then-generates-clause-clause
returns-then-generates-clause-clause c =
    generated_at statement_zero c.args.sort.now c.args.statements.now c.loop-statement.number
    c.loop-statement.statement-index c.statement-item.result c.loop-statement.invariant.number
    c.loop-statement-test.true c.statement-item.is (sym c.generates.ensures ∙ c.if-generates.true)
    c.loop-statement.invariant.none
