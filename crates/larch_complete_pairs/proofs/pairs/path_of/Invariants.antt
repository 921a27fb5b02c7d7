use Rattle.std.specs.Prelude.{◌≡◌, take}
use Rattle.larch_complete_pairs.proofs.pairs.path_of.Given as goal

-- the numbers so far
abbrev pub invariant-loop-number : goal.invariant-loop-number
invariant-loop-number l = l.path ≡ take l.number-index l.place
