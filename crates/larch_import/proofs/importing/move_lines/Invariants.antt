use Rattle.std.proofs.Common.{◌≡◌, map, take}
use Rattle.larch_verify_law.specs.Moves.{moved_line}
use Rattle.larch_import.specs.ByWords.{move_of}
use Rattle.larch_import.proofs.importing.move_lines.Given as goal

-- the lines so far are moved
abbrev pub invariant-loop-line : goal.invariant-loop-line
invariant-loop-line l = l.moved ≡ map (moved_line (move_of l.words)) (take l.line-index l.lines)
