-- A certificate in the second version.
use Rattle.std.proofs.Common.{◌≡◌, refl, sym, ap, subst, ◌∙◌, ℕ, ◌<◌, ◌^◌, Bool, true, List, [], length, Option}
use Rattle.std.proofs.Common.{Result, Ok, Err, arith}
use Rattle.std.specs.Prelude.{IfSome}
use Rattle.larch_base.specs.declared.label.Label.{Label}
use Rattle.larch_certificate.specs.declared.line.Line.{Line}
use Rattle.larch_certificate_migrate.specs.Migrated.{migrated_of}
use Rattle.larch_certificate_migrate.proofs.Again.{read_again}
use Rattle.larch_certificate_text.specs.CertificateText.{certificate_text, read_certificate}
use Rattle.larch_io.specs.Folder.{FileMap, file_of}
use Rattle.larch_traits.specs.Files.{Table}
use Rattle.larch_main_files.specs.Answer.{AnswersBy, IsAnswer, answer_to, no_file, said, size_passed}
use Rattle.larch_main_files.specs.Complete.{HasCertificate, IsCertificate}
use Rattle.larch_main_files.specs.Gather.{Gathered, Absent, TooLarge, Whole, and_then, evidence_in, gather_names}
use Rattle.larch_main_files.specs.Look.{EvidenceFor, found_of}
use Rattle.larch_main_files.specs.Migrate.{IsMigrated, MayMigrate, Migrated, migrated_told, migration_answer}
use Rattle.larch_main_files.specs.Verify.{duty_in, judged_by}
use Rattle.larch_main_files.specs.declared.answer.Answer.{Answer}
use Rattle.larch_main_files.specs.declared.gather.Evidence.{Evidence}
use Rattle.larch_main_files.specs.declared.gather.GatherRefusal.{GatherRefusal}
use Rattle.larch_main_files.specs.declared.gather.GatherRefusal.TheVariants as refusal_
use Rattle.larch_main_status.specs.declared.status.Status.{Status}
use Rattle.larch_main_status.specs.declared.status.Status.TheVariants.{Good}
use Rattle.larch_main_files.proofs.Accepted.{answer_good}
use Rattle.larch_main_files.proofs.Complete.{fetched_whole}
use Rattle.larch_main_files.proofs.Trimmed.{evidence_short, evidence_text}
use Rattle.larch_main_files.proofs.Verdicts.{text_read}

-- what is answered of the text that was gathered
abbrev pub TellsText : Evidence → List ℕ → Status → Type 0
TellsText e = IsAnswer (migration_answer e.text)

-- what may be answered to what was gathered is what may be answered to the name of a certificate
module _ (certificate : List ℕ) (told : Option FileMap) where
  pub migration_answered : (found : Gathered Evidence) (answer : Answer) → EvidenceFor told certificate [] found
      → AnswersBy TellsText found answer.text answer.status → Migrated certificate told answer
  migration_answered found answer comes by = record {
    folder = comes.folder;
    is_folder = comes.is_folder;
    answers = subst (λ f. AnswersBy TellsText f answer.text answer.status) (sym comes.is_found) by;
  }

  pub migration_refused : (refusal : GatherRefusal)
      → IfSome (found_of {A = Evidence} (Err refusal)) (λ found. EvidenceFor told certificate [] found)
      → IfSome (answer_to refusal) (λ answer. Migrated certificate told answer)
  migration_refused (refusal_.Absent name) comes =
      migration_answered (Absent name) (no_file name) comes (refl, refl)
  migration_refused refusal_.TooLarge comes = migration_answered TooLarge size_passed comes (refl, refl)
  migration_refused refusal_.ReadFault comes = tt
  migration_refused refusal_.Memory comes = tt

-- ---- a certificate that is there is migrated

certificate_migrated : (text : List ℕ) → IsCertificate text → (migration_answer text).status ≡ Good
certificate_migrated text (second, lines, is) =
    ap (λ r. (migrated_told (migrated_of r)).status) (text_read text second lines is)

pub there_is_migrated : (certificate : List ℕ) (folder : FileMap) (output : List ℕ) (status : Status)
    → HasCertificate folder certificate → MayMigrate certificate folder output status → status ≡ Good
there_is_migrated certificate folder output status here may =
    let c = fetched_whole certificate (file_of folder certificate) IsCertificate here in
    let e : Evidence = record { text = c.0; files = [] } in
    let whole : evidence_in folder certificate [] ≡ Whole e =
    ap (λ found. and_then found (λ text.
    and_then (gather_names folder [] []) (λ files. Whole (record { text = text; files = files })))) c.1 in
    let answer : IsAnswer (migration_answer e.text) output status =
    subst (λ found. AnswersBy TellsText found output status) whole may in
    answer.1 ∙ certificate_migrated c.0 c.2

-- ---- what is migrated is the same certificate

lines_read : (r : Result (Bool × List Line) ℕ) → (migrated_told (migrated_of r)).status ≡ Good
    → (p : Bool × List Line) × (r ≡ Ok p)
lines_read (Ok p) e = (p, refl)
lines_read (Err number) e = cc

module _ (text output : List ℕ) (second : Bool) (lines : List Line) (short : length text < 2 ^ 63)
    (read : read_certificate true text ≡ Ok (second, lines)) (written : output ≡ (migration_answer text).text) where
  is_written : output ≡ certificate_text true lines
  is_written = written ∙ ap (λ r. (migrated_told (migrated_of r)).text) read

  output_read : read_certificate true output ≡ Ok (true, lines)
  output_read = ap (read_certificate true) is_written ∙ read_again text second lines short read

  same_verdict : (stem : List ℕ) (label : Label) (files : Table)
      → judged_by (duty_in files stem label) (read_certificate true output)
      ≡ judged_by (duty_in files stem label) (read_certificate true text)
  same_verdict stem label files =
      ap (judged_by (duty_in files stem label)) output_read
      ∙ sym (ap (judged_by (duty_in files stem label)) read)

  written_again : migration_answer output ≡ said output Good
  written_again = ap (λ r. migrated_told (migrated_of r)) output_read ∙ ap (λ t. said t Good) (sym is_written)

pub migrated_is_same : (certificate : List ℕ) (folder : FileMap) (output : List ℕ)
    → MayMigrate certificate folder output Good → IsMigrated folder certificate output
migrated_is_same certificate folder output may =
    let a = answer_good (λ (e : Evidence). migration_answer e.text) (evidence_in folder certificate []) output may in
    let e : Evidence = a.0 in
    let r = lines_read (read_certificate true e.text) a.2 in
    let bounded = evidence_short folder certificate [] e a.1 in
    let short : length e.text < 2 ^ 63 = omega (arith, bounded) in
    record {
      text = e.text;
      is_text = evidence_text folder certificate [] e a.1;
      verified = same_verdict e.text output r.0.0 r.0.1 short r.1 a.3;
      again = written_again e.text output r.0.0 r.0.1 short r.1 a.3;
    }
