use Rattle.std.proofs.Common.{◌≡◌, ◌++◌, drop}
use Rattle.larch_duties.specs.Lines.{numbered_lines}
use Rattle.larch_duties.proofs.printing.write_lines.Given as goal

-- what is written and what is left to write are all
abbrev pub invariant-loop-statement : goal.invariant-loop-statement
invariant-loop-statement l =
    l.text ++ numbered_lines l.before l.next l.behind (drop l.statement-index l.statements)
    ≡ l.initial.text ++ numbered_lines l.before l.number l.behind l.statements
