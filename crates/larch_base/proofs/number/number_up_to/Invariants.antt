use Rattle.std.proofs.Common.{◌≡◌, ◌≤◌, drop, fold}
use Rattle.larch_base.specs.Number.{value_of, with_digit}
use Rattle.larch_base.proofs.number.number_up_to.Given as goal

-- what the digits so far spell, with the further ones, is what all spell; and it isn't too large
abbrev pub invariant-loop-digit : goal.invariant-loop-digit
invariant-loop-digit l = record {
  same : fold with_digit l.number (drop l.digit-index l.digits) ≡ value_of l.digits;
  within : l.number ≤ l.most;
}
