use Rattle.std.proofs.Common.{◌+◌, ◌-◌, length}
use Rattle.larch_duties.proofs.Free.{IsTried}
use Rattle.larch_duties.proofs.words.free_word.Given as goal

-- the words that were tried are taken
abbrev pub invariant-loop-alloc : goal.invariant-loop-alloc
invariant-loop-alloc l = IsTried l.taken.keys l.fn.tried l.word

-- so many more can be taken
abbrev pub decreases-loop-alloc : goal.decreases-loop-alloc
decreases-loop-alloc l = length l.taken.keys + length l.fn.tried - length l.word
