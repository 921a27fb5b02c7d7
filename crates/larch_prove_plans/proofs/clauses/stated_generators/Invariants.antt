use Rattle.std.proofs.Common.{◌≡◌, drop}
use Rattle.larch_prove_meaning.specs.Plans.{generators}
use Rattle.larch_prove_plans.proofs.clauses.stated_generators.Given as goal

-- none so far is of the sort
abbrev pub invariant-loop-statement : goal.invariant-loop-statement
invariant-loop-statement l = generators l.sort (drop l.statement-index l.statements) ≡ generators l.sort l.statements
