use Rattle.std.proofs.Common.{◌≡◌, take}
use Rattle.std.specs.Prelude.{fold}
use Rattle.larch_import_meaning.specs.Lengths.{with_statement}
use Rattle.larch_import.proofs.lengths.with_statements.Given as goal

-- so far
abbrev pub invariant-loop-statement : goal.invariant-loop-statement
invariant-loop-statement l = l.most ≡ fold with_statement l.fn.most (take l.statement-index l.statements)
