-- What is answered where a certificate is wanted in the second version.
use Rattle.std.specs.Prelude.{◌≡◌, ℕ, List, [], Option, Result, Ok, Err}
use Rattle.larch_base.specs.declared.label.Label.{Label}
use Rattle.larch_certificate_migrate.specs.Migrated.{second_text}
use Rattle.larch_io.specs.Folder.{FileMap, file_of}
use Rattle.larch_main_status.specs.declared.status.Status.{Status}
use Rattle.larch_main_status.specs.declared.status.Status.TheVariants.{Good}
use Rattle.larch_traits.specs.Files.{Table}
use Rattle.larch_main_files.specs.Answer.{AnswersBy, IsAnswer, said}
use Rattle.larch_main_files.specs.Gather.{IsFolder, Whole, evidence_in, fetching}
use Rattle.larch_main_files.specs.Verify.{malformed_answer, verification_answer}
use Rattle.larch_main_files.specs.declared.answer.Answer.{Answer}

-- what was migrated, or from which line on the text is no certificate
abbrev pub migrated_told : Result (List ℕ) ℕ → Answer
migrated_told (Ok written) = said written Good
migrated_told (Err number) = malformed_answer number

-- what is answered of the text of a certificate
abbrev pub migration_answer : List ℕ → Answer
migration_answer text = migrated_told (second_text text)

-- where the certificate of this name is wanted in the second version, this text and this status may be answered
abbrev pub MayMigrate : List ℕ → FileMap → List ℕ → Status → Type 0
MayMigrate certificate folder =
    AnswersBy (λ evidence. IsAnswer (migration_answer evidence.text)) (evidence_in folder certificate [])

-- this was answered then: on some folder, the told one where it is told
pub record Migrated (certificate : List ℕ) (told : Option FileMap) (answer : Answer) : Type 0 where
  pub folder : FileMap
  pub is_folder : IsFolder told folder
  pub answers : MayMigrate certificate folder answer.text answer.status

-- What was written is the same certificate: whichever duty of whichever files it is for, `verify` answers the same; and
-- migrating it writes the same again.
pub record IsMigrated (folder : FileMap) (certificate output : List ℕ) : Type 0 where
  pub text : List ℕ
  pub is_text : fetching certificate (file_of folder certificate) ≡ Whole text
  pub verified : (stem : List ℕ) (label : Label) (files : Table)
      → verification_answer stem label (record { text = output; files = files })
      ≡ verification_answer stem label (record { text = text; files = files })
  pub again : migration_answer output ≡ said output Good
