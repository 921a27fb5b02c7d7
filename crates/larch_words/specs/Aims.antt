-- What a certificate is wanted for.
use Rattle.larch_words.specs.declared.evidence.Aim.{Aim}
use Rattle.larch_words.specs.declared.evidence.Aim.TheVariants as aim_
use Rattle.larch_words.specs.declared.call.Question.{Question}
use Rattle.larch_words.specs.declared.call.Question.TheVariants.{Trim, Verify}
use Rattle.larch_words.specs.declared.call.Verification.{Verification}

-- what is asked of it then
abbrev pub asking : Aim → Verification → Question
asking aim_.Verify = Verify
asking aim_.Trim = Trim
