-- What is answered where a derivation of a duty is wanted.
use Rattle.std.specs.Prelude.{◌≡◌, ℕ, List, [], codes, Option, Some, None}
use Rattle.larch_certificate.specs.declared.line.Line.{Line}
use Rattle.larch_io.specs.Folder.{FileMap}
use Rattle.larch_session_derive_meaning.specs.Derived.{Derives, derivation_text}
use Rattle.larch_session_derive_meaning.specs.Verified.{IsVerified}
use Rattle.larch_traits.specs.Files.{Table}
use Rattle.larch_words.specs.declared.call.DutyName.{DutyName}
use Rattle.larch_main_files.specs.Answer.{IsAnswer, said}
use Rattle.larch_main_files.specs.Gather.{Whole, gather_names}
use Rattle.larch_main_files.specs.Verify.{verification_answer}
use Rattle.larch_main_files.specs.declared.answer.Answer.{Answer}
use Rattle.larch_main_status.specs.declared.status.Status.{Status}
use Rattle.larch_main_status.specs.declared.status.Status.TheVariants.{Good, Remains}

-- the text of a derivation, or that there is none
abbrev pub derivation_answer : Option (List Line) → Answer
derivation_answer None = said (codes "none\n") Remains
derivation_answer (Some lines) = said (derivation_text lines) Good

-- Of a duty among these files, with a rewriting limit, this text and this status may be answered. Which derivation it
-- is is left open.
pub record MayDerive (limit : ℕ) (asked : DutyName) (files : Table) (text : List ℕ) (status : Status) : Type 0 where
  pub derivation : Option (List Line)
  pub derives : Derives limit files asked.stem asked.label derivation
  pub answers : IsAnswer (derivation_answer derivation) text status

-- What was written is the text of a derivation of the duty among these files of the folder: `verify` accepts it over
-- the same files, so the duty is derivable from its own theory.
pub record IsDerivation (folder : FileMap) (asked : DutyName) (names : List (List ℕ)) (output : List ℕ) : Type 0 where
  pub files : Table
  pub are_files : gather_names folder [] names ≡ Whole files
  pub lines : List Line
  pub is_text : output ≡ derivation_text lines
  pub verified : IsVerified files asked.stem asked.label lines
  pub accepted : verification_answer asked.stem asked.label (record { text = output; files = files })
      ≡ said (codes "accepted\n") Good
