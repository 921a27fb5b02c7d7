use Rattle.std.proofs.Common.{◌≡◌, ◌+◌, drop}
use Rattle.std.specs.List.{position_from}
use Rattle.larch_prove_meaning.specs.Plans.{generators}
use Rattle.larch_prove_plans.specs.ClauseGoals.{generates}
use Rattle.larch_prove_plans.proofs.clauses.stated_clause.Given as goal

-- the number is that of the next statement, and none so far is of the sort
abbrev pub invariant-loop-statement : goal.invariant-loop-statement
invariant-loop-statement l = record {
  number : l.number ≡ 1 + l.statement-index;
  none : generators l.sort (drop l.statement-index l.statements) ≡ generators l.sort l.statements;
  first : position_from (generates l.sort) l.number (drop l.statement-index l.statements)
      ≡ position_from (generates l.sort) 1 l.statements;
}
