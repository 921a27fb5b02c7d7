use Rattle.std.proofs.Common.{◌≡◌, replicate}
use Rattle.larch_import.proofs.words.letters_before.Given as goal

-- so many letters so far
abbrev pub invariant-loop : goal.invariant-loop
invariant-loop l = l.bytes.items ≡ replicate l.counter 115
