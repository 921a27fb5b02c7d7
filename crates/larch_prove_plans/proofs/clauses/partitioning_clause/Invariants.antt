use Rattle.std.proofs.Common.{◌≡◌, ◌+◌, drop}
use Rattle.std.specs.List.{position_from}
use Rattle.larch_prove_meaning.specs.Plans.{observers}
use Rattle.larch_prove_plans.specs.ClauseGoals.{partitions}
use Rattle.larch_prove_plans.proofs.clauses.partitioning_clause.Given as goal

-- the number is that of the next statement, and none so far is of the sort
abbrev pub invariant-loop-statement : goal.invariant-loop-statement
invariant-loop-statement l = record {
  number : l.number ≡ 1 + l.statement-index;
  none : observers l.sort (drop l.statement-index l.statements) ≡ observers l.sort l.statements;
  first : position_from (partitions l.sort) l.number (drop l.statement-index l.statements)
      ≡ position_from (partitions l.sort) 1 l.statements;
}
