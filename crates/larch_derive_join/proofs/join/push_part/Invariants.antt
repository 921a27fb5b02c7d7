use Rattle.std.proofs.Common.{◌≡◌, ◌++◌, length, map, take}
use Rattle.larch_derive_join.specs.Joined.{joined_line}
use Rattle.larch_derive_join.proofs.join.push_part.Given as goal

-- the lines so far stand behind those before
abbrev pub invariant-loop-line : goal.invariant-loop-line
invariant-loop-line l =
    l.lines ≡ l.fn.lines
    ++ map (joined_line (length l.fn.lines) l.lemmas l.part) (take l.line-index l.part.certificate)
