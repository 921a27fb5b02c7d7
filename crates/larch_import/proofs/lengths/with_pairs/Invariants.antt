use Rattle.std.proofs.Common.{◌≡◌, take}
use Rattle.std.specs.Prelude.{fold}
use Rattle.larch_import_meaning.specs.Lengths.{with_pair}
use Rattle.larch_import.proofs.lengths.with_pairs.Given as goal

-- so far
abbrev pub invariant-loop-pair : goal.invariant-loop-pair
invariant-loop-pair l = l.most ≡ fold with_pair l.fn.most (take l.pair-index l.pairs)
