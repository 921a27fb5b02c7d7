use Rattle.std.proofs.Common.{◌≡◌, drop}
use Rattle.larch_script.specs.Numbers.{with_digits}
use Rattle.larch_script.proofs.numbers.digits.Given as goal

-- the digits that are left make the number from its digits so far
abbrev pub invariant-loop-byte : goal.invariant-loop-byte
invariant-loop-byte l = with_digits l.value (drop l.byte-index l.text) ≡ with_digits 0 l.text
