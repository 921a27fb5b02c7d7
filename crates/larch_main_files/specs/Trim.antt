-- What is answered where a certificate is to be trimmed.
use Rattle.std.specs.Prelude.{◌≡◌, ◌<◌, ◌≤◌, ℕ, Bool, true, List, [], length, codes, Result, Ok, Err}
use Rattle.larch_base.specs.declared.label.Label.{Label}
use Rattle.larch_certificate.specs.declared.line.Line.{Line}
use Rattle.larch_certificate_text.specs.CertificateText.{certificate_text, read_certificate}
use Rattle.larch_io.specs.Folder.{FileMap}
use Rattle.larch_traits.specs.Files.{Table}
use Rattle.larch_trim_meaning.specs.Needed.{Needed}
use Rattle.larch_trim_meaning.specs.Trimmed.{trim_lines}
use Rattle.larch_words.specs.declared.call.Verification.{Verification}
use Rattle.larch_main_files.specs.Answer.{said}
use Rattle.larch_main_files.specs.Gather.{Whole, gather_names}
use Rattle.larch_main_files.specs.Verify.{IsShown, verification_answer}
use Rattle.larch_main_files.specs.declared.answer.Answer.{Answer}
use Rattle.larch_main_files.specs.declared.gather.Evidence.{Evidence}
use Rattle.larch_main_status.specs.declared.status.Status.{Status}
use Rattle.larch_main_status.specs.declared.status.Status.TheVariants.{Good}

-- the text of these lines without those that their end doesn't need, in the second version
abbrev pub left_text : List Line → List ℕ
left_text lines = certificate_text true (trim_lines lines)

-- what a verdict on lines becomes, by its status: in the place of that they are accepted stands what is left of them
abbrev pub left_by : Status → Answer → List Line → Answer
left_by Good verdict lines = said (left_text lines) Good
left_by _ verdict lines = verdict

abbrev pub left_of : Answer → List Line → Answer
left_of verdict lines = left_by verdict.status verdict lines

-- the same by what the text of the certificate is: it may be none
abbrev pub left_read : Answer → Result (Bool × List Line) ℕ → Answer
left_read verdict (Ok read) = left_of verdict read.1
left_read verdict (Err number) = verdict

-- what is answered of a certificate and files: what `verify` answers, and in the place of `accepted` what is left
abbrev pub trimming_answer : List ℕ → Label → Evidence → Answer
trimming_answer stem label e = left_read (verification_answer stem label e) (read_certificate true e.text)

-- What was written is what it is to be: the duty is derivable; over the same files `verify` accepts what was written;
-- each line of it is needed; and trimming it writes the same again.
pub record IsTrimmed (folder : FileMap) (asked : Verification) (names : List (List ℕ)) (output : List ℕ) : Type 0 where
  pub shown : IsShown folder asked names
  pub files : Table
  pub are_files : gather_names folder [] names ≡ Whole files
  pub accepted : verification_answer asked.stem asked.label (record { text = output; files = files })
      ≡ said (codes "accepted\n") Good
  pub lines : List Line
  pub read : read_certificate true output ≡ Ok (true, lines)
  pub needed : (n : ℕ) → 0 < n → n ≤ length lines → Needed lines n
  pub again : trimming_answer asked.stem asked.label (record { text = output; files = files }) ≡ said output Good
