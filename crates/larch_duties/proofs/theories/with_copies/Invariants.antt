use Rattle.std.proofs.Common.{◌≡◌, ◌++◌, map, take}
use Rattle.larch_duties_meaning.specs.Conversions.{copy_of}
use Rattle.larch_duties.proofs.theories.with_copies.Given as goal

-- the operators, and the copies so far
abbrev pub invariant-loop-copied : goal.invariant-loop-copied
invariant-loop-copied l = l.all ≡ l.fn.operators ++ map copy_of (take l.copied-index l.copies)
