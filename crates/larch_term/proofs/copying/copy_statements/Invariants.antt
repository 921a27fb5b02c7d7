use Rattle.std.proofs.Common.{◌≡◌, take}
use Rattle.larch_term.proofs.copying.copy_statements.Given as goal

-- those so far are copied
abbrev pub invariant-loop-statement : goal.invariant-loop-statement
invariant-loop-statement l = l.copies ≡ take l.statement-index l.statements
