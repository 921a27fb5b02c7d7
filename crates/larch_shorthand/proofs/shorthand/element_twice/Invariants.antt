use Rattle.std.proofs.Common.{◌≡◌, [], drop}
use Rattle.larch_shorthand.specs.Shorthand.{twice}
use Rattle.larch_shorthand.proofs.shorthand.element_twice.Given as goal

-- what is left is answered as all words are
abbrev pub invariant-loop-word : goal.invariant-loop-word
invariant-loop-word l = twice l.names.keys (drop l.word-index l.words) ≡ twice [] l.words
