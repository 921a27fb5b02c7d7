use Rattle.std.proofs.Common.{◌≡◌, take}
use Rattle.larch_duties_meaning.specs.Conversions.{by_copies}
use Rattle.larch_duties.proofs.clause.by_copies.Given as goal

-- the copies so far are in the places of their operators
abbrev pub invariant-loop-copied : goal.invariant-loop-copied
invariant-loop-copied l = l.by ≡ by_copies (take l.copied-index l.copies)
