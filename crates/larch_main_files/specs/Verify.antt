-- What is answered where a certificate is to be verified.
use Rattle.std.specs.Prelude.{◌≡◌, ℕ, Bool, true, List, [], ◌++◌, bytes_eq, find, decimal, codes, Option, Some, None}
use Rattle.std.specs.Prelude.{Result, Ok, Err}
use Rattle.larch_base.specs.Label.{label_text}
use Rattle.larch_base.specs.declared.label.Label.{Label}
use Rattle.larch_certificate.specs.declared.line.Line.{Line}
use Rattle.larch_certificate_text.specs.CertificateText.{read_certificate}
use Rattle.larch_verify_meaning.specs.Acceptance.{verdict}
use Rattle.larch_calculus.specs.Derivable.{Derivable}
use Rattle.larch_flat_meaning.specs.Stops.{Stop}
use Rattle.larch_io.specs.Folder.{FileMap}
use Rattle.larch_models_answer.specs.Failing.{HasLine, failing_line}
use Rattle.larch_session_meaning.specs.DutiesTraitDuties.{trait_duties}
use Rattle.larch_traits.specs.Files.{Table}
use Rattle.larch_traits.specs.Reading.{read_files}
use Rattle.larch_duties_meaning.specs.Duties.{Duties, Duty, all_duties}
use Rattle.larch_words.specs.declared.call.Verification.{Verification}
use Rattle.larch_main_files.specs.Answer.{said}
use Rattle.larch_main_files.specs.Gather.{Whole, gather_names}
use Rattle.larch_main_files.specs.Model.{trial_answer}
use Rattle.larch_main_files.specs.declared.answer.Answer.{Answer}
use Rattle.larch_main_files.specs.declared.gather.Evidence.{Evidence}
use Rattle.larch_main_status.specs.declared.status.Status.TheVariants.{Good, Remains, Malformed}

-- the first duty whose label has this text
abbrev pub duty_with : List ℕ → List Duty → Option Duty
duty_with label ds = find (λ d. bytes_eq label (label_text d.label)) ds

-- the same among the duties of a trait, where nothing is wrong with it
abbrev pub duty_among : List ℕ → Result Duties Stop → Option Duty
duty_among label (Ok d) = duty_with label (all_duties d)
duty_among label (Err stop) = None

-- the duty of a trait with a label; there is none where the trait isn't there
abbrev pub duty_in : Table → List ℕ → Label → Option Duty
duty_in files stem label = duty_among (label_text label) (trait_duties (read_files files) stem)

-- the verdict on a certificate
abbrev pub verdict_told : Option ℕ → Answer
verdict_told None = said (codes "accepted\n") Good
verdict_told (Some number) = said (codes "refused " ++ (decimal number ++ codes "\n")) Remains

-- the text of the certificate is outside the grammar from this line on
abbrev pub malformed_answer : ℕ → Answer
malformed_answer number = said (codes "malformed at line " ++ (decimal number ++ codes "\n")) Malformed

-- the verdict on a certificate for a duty, if there is one
abbrev pub verdict_of : Option Duty → List Line → Answer
verdict_of None lines = said (codes "no duty\n") Remains
verdict_of (Some duty) lines = verdict_told (verdict duty.theory duty.statement lines)

-- the same by what the text of the certificate is: it may be none, which comes before that there is no duty
abbrev pub judged_by : Option Duty → Result (Bool × List Line) ℕ → Answer
judged_by duty (Ok read) = verdict_of duty read.1
judged_by duty (Err number) = malformed_answer number

-- the verdict on a certificate, in either version, and files
abbrev pub verification_answer : List ℕ → Label → Evidence → Answer
verification_answer stem label e = judged_by (duty_in e.files stem label) (read_certificate true e.text)

-- what was to be verified is so: among these files of the folder the trait has a duty with the label, its statement is
-- derivable from its theory, and whichever text is tried as a model of the trait, no line says that the duty fails
pub record IsShown (folder : FileMap) (asked : Verification) (names : List (List ℕ)) : Type 0 where
  pub files : Table
  pub are_files : gather_names folder [] names ≡ Whole files
  pub duty : Duty
  pub is_duty : duty_in files asked.stem asked.label ≡ Some duty
  pub derivable : Derivable duty.theory duty.statement
  pub fails_nowhere : (text : List ℕ)
      → HasLine (trial_answer asked.stem (record { text = text; files = files })).text (failing_line asked.label) → ⊥
