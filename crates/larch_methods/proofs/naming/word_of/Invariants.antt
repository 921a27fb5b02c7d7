use Rattle.std.proofs.Common.{◌≡◌}
use Rattle.larch_methods.specs.Observers.{word_of}
use Rattle.larch_methods.proofs.naming.word_of.Given as goal

-- there are so many letters so far
abbrev pub invariant-loop-letter : goal.invariant-loop-letter
invariant-loop-letter l = l.bytes.items ≡ word_of l.letter
