use Rattle.std.proofs.Common.{◌≡◌, ◌++◌, drop}
use Rattle.larch_duties.specs.Lines.{copy_lines}
use Rattle.larch_duties.proofs.printing.write_copies.Given as goal

-- what is written and what is left to write are all
abbrev pub invariant-loop-copied : goal.invariant-loop-copied
invariant-loop-copied l =
    l.text ++ copy_lines (drop l.copied-index l.copies) ≡ l.initial.text ++ copy_lines l.copies
