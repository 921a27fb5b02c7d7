use Rattle.std.proofs.Common.{◌≡◌, [], drop, false, fold}
use Rattle.larch_flat_meaning.specs.Gathered.{with_statement}
use Rattle.larch_duties.proofs.known.asserted_statements.Given as goal

-- what the statements that are left make of those so far is the whole
abbrev pub invariant-loop-statement : goal.invariant-loop-statement
invariant-loop-statement l =
    fold (λ ms s. with_statement s false ms) l.marked (drop l.statement-index l.statements)
    ≡ fold (λ ms s. with_statement s false ms) [] l.statements
