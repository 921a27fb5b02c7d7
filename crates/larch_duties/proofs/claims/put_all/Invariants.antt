use Rattle.std.proofs.Common.{◌≡◌, ◌++◌}
use Rattle.larch_duties.specs.Labelling.{claims_from}
use Rattle.larch_duties.proofs.claims.put_all.Given as goal

-- what is put and what is left to put are all
abbrev pub invariant-loop-statement : goal.invariant-loop-statement
invariant-loop-statement l =
    l.claims ++ claims_from l.label l.clause l.theory.value l.statement-iterator.rest.items
    ≡ l.initial.claims ++ claims_from l.fn.first l.clause l.theory.value l.fn.statements
