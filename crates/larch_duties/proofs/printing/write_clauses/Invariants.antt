use Rattle.std.proofs.Common.{◌≡◌, ◌++◌, drop}
use Rattle.larch_duties.specs.Kept.{theory_in}
use Rattle.larch_duties.specs.Lines.{clauses_lines}
use Rattle.larch_duties.proofs.printing.write_clauses.Given as goal

-- what is written and what is left to write are all
abbrev pub invariant-loop-conversion : goal.invariant-loop-conversion
invariant-loop-conversion l =
    l.text ++ clauses_lines l.count (theory_in l.flat) l.next (drop l.conversion-index l.conversions)
    ≡ l.initial.text ++ clauses_lines l.count (theory_in l.flat) 1 l.conversions
