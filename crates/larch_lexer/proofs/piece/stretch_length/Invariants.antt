use Rattle.std.proofs.Common.{◌≡◌, ◌+◌, length}
use Rattle.larch_lexer.specs.Piece.{stretch_length}
use Rattle.larch_lexer.proofs.piece.stretch_length.Given as goal

-- what was counted and what is still to count make up the whole
abbrev pub invariant-loop-rest : goal.invariant-loop-rest
invariant-loop-rest l = record {
  counted : stretch_length l.stretch l.rest + l.length ≡ stretch_length l.stretch l.bytes;
  within : length l.rest + l.length ≡ length l.bytes;
}

abbrev pub decreases-loop-rest : goal.decreases-loop-rest
decreases-loop-rest l = length l.rest
