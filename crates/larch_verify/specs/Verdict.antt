-- Answers of the checker.
use Rattle.std.specs.Prelude.{ℕ, Option, Some, None}
use Rattle.larch_verify.specs.declared.verdict.Verdict.{Verdict}
use Rattle.larch_verify.specs.declared.verdict.Verdict.TheVariants.{Accepted, Refused}

-- the number with which a certificate is refused, if it is
abbrev pub refusal : Verdict → Option ℕ
refusal Accepted = None
refusal (Refused n) = Some n
