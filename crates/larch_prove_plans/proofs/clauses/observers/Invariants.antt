use Rattle.std.proofs.Common.{◌≡◌, drop}
use Rattle.larch_prove_meaning.specs.Plans.{observers}
use Rattle.larch_prove_plans.proofs.clauses.observers.Given as goal

-- none so far is of the sort
abbrev pub invariant-loop-statement : goal.invariant-loop-statement
invariant-loop-statement l = observers l.sort (drop l.statement-index l.statements) ≡ observers l.sort l.statements
