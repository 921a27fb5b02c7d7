use Rattle.std.proofs.Common.{◌≡◌, take}
use Rattle.larch_shorthand.specs.Shorthand.{names_in}
use Rattle.larch_shorthand.proofs.shorthand.names_in.Given as goal

-- the names so far
abbrev pub invariant-loop-word : goal.invariant-loop-word
invariant-loop-word l = l.names ≡ names_in (take l.word-index l.words)
