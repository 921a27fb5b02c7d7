use Rattle.std.proofs.Common.{◌≡◌, ◌<◌, ◌^◌, take}
use Rattle.larch_main_session.specs.Command.{number_of_digits}
use Rattle.larch_main_session.proofs.command.number_of_digits.Given as goal

-- the number that the digits so far spell, which has no more digits
abbrev pub invariant-loop-digit : goal.invariant-loop-digit
invariant-loop-digit l = record {
  spelled : l.number ≡ number_of_digits (take l.digit-index l.digits);
  small : l.number < 10 ^ l.digit-index;
}
