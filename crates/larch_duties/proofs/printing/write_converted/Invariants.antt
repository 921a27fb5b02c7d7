use Rattle.std.proofs.Common.{◌≡◌, ◌++◌, drop}
use Rattle.larch_duties.specs.Lines.{converted_lines}
use Rattle.larch_duties.proofs.printing.write_converted.Given as goal

-- what is written and what is left to write are all
abbrev pub invariant-loop-copied : goal.invariant-loop-copied
invariant-loop-copied l =
    l.text ++ converted_lines l.next (drop l.copied-index l.copies)
    ≡ l.initial.text ++ converted_lines l.number l.copies
