-- What is answered where a text is tried as a model of a trait.
use Rattle.std.specs.Prelude.{ℕ, List, codes, Result, Ok, Err}
use Rattle.larch_session_meaning.specs.DutiesOwn.{trait_own_claims}
use Rattle.larch_session_meaning.specs.DutiesOwnOwnClaims.{OwnClaims}
use Rattle.larch_flat_meaning.specs.Stops.{Stop}
use Rattle.larch_models_answer.specs.Judgements.{judge_model}
use Rattle.larch_models_answer.specs.declared.finding.Ending.{Ending}
use Rattle.larch_models_answer.specs.declared.finding.Ending.TheVariants.{Holds, Fails, Malformed, TooLarge}
use Rattle.larch_models_answer.specs.declared.finding.Finding.{Finding}
use Rattle.larch_traits.specs.Reading.{read_files}
use Rattle.larch_main_files.specs.Answer.{said}
use Rattle.larch_main_files.specs.declared.answer.Answer.{Answer}
use Rattle.larch_main_files.specs.declared.gather.Evidence.{Evidence}
use Rattle.larch_main_status.specs.declared.status.Status.{Status}
use Rattle.larch_main_status.specs.declared.status.Status.TheVariants as status_

-- the trait isn't there, or something is wrong with it or with its claims
abbrev pub no_trait : Answer
no_trait = said (codes "no trait\n") status_.Remains

-- how what is found ends, as a status
abbrev pub ending_status : Ending → Status
ending_status Holds = status_.Good
ending_status Fails = status_.Remains
ending_status Malformed = status_.Malformed
ending_status TooLarge = status_.Size

-- what is found of a text, as it is told
abbrev pub finding_told : Finding → Answer
finding_told finding = said finding.text (ending_status finding.ending)

-- what is answered by what a trait claims, if it is one: that it is none comes before what the text is
abbrev pub tried_over : List ℕ → Result OwnClaims Stop → Answer
tried_over text (Ok own) = finding_told (judge_model own.theory own.assumed own.implied text)
tried_over text (Err stop) = no_trait

-- what is answered where a text is tried as a model of a trait among files
abbrev pub trial_answer : List ℕ → Evidence → Answer
trial_answer stem e = tried_over e.text (trait_own_claims (read_files e.files) stem)
