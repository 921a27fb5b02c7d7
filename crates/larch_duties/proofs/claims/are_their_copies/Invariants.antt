use Rattle.std.proofs.Common.{◌≡◌, map, take}
use Rattle.larch_duties_meaning.specs.Duties.{is_its_copy}
use Rattle.larch_duties.proofs.claims.are_their_copies.Given as goal

-- the statements so far
abbrev pub invariant-loop-copied : goal.invariant-loop-copied
invariant-loop-copied l = l.statements ≡ map is_its_copy (take l.copied-index l.copies)
