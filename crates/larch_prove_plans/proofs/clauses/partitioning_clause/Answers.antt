use Rattle.std.proofs.Common.{None, Some, refl, sym, ◌∙◌, arith}
use Rattle.std.specs.List.{position_from}
use Rattle.larch_term.specs.Statement.{statement_zero}
use Rattle.larch_prove_plans.specs.ClauseGoals.{partitions}
use Rattle.larch_prove_plans.proofs.Generating.{first_behind, first_here, first_nowhere, partitioned_at}
use Rattle.larch_prove_plans.proofs.clauses.partitioning_clause.Goals as goal

pub returns-then-partitions-clause-first : goal.returns-then-partitions-clause-first
returns-then-partitions-clause-first c =
    first_behind (partitions c.args.sort.now) statement_zero c.args.statements.now (Some c.loop-statement.number) refl
    (first_here (partitions c.args.sort.now) c.args.statements.now c.loop-statement.number
    c.loop-statement.statement-index c.statement-item.result
    (position_from (partitions c.args.sort.now) 1 c.args.statements.now) c.loop-statement-test.true c.statement-item.is
    (sym c.partitions.ensures ∙ c.if-partitions.true) c.loop-statement.invariant.first)

pub returns-then-partitions-clause-clause : goal.returns-then-partitions-clause-clause
returns-then-partitions-clause-clause c =
    partitioned_at statement_zero c.args.sort.now c.args.statements.now c.loop-statement.number
    c.loop-statement.statement-index c.statement-item.result c.loop-statement.invariant.number
    c.loop-statement-test.true c.statement-item.is (sym c.partitions.ensures ∙ c.if-partitions.true)
    c.loop-statement.invariant.none

pub returns-clause-first : goal.returns-clause-first
returns-clause-first c =
    first_behind (partitions c.args.sort.now) statement_zero c.args.statements.now None refl
    (first_nowhere (partitions c.args.sort.now) c.args.statements.now c.loop-statement.number
    c.loop-statement.statement-index (position_from (partitions c.args.sort.now) 1 c.args.statements.now)
    (omega (arith, c.loop-statement-test.false)) c.loop-statement.invariant.first)
