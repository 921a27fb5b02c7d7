use Rattle.std.proofs.Common.{◌≡◌, drop}
use Rattle.larch_certificate_text.specs.Parts.{digits_from}
use Rattle.larch_models.proofs.parts.digits.Given as goal

abbrev pub invariant-loop-byte : goal.invariant-loop-byte
invariant-loop-byte l = digits_from l.value (drop l.byte-index l.text) ≡ digits_from 0 l.text
