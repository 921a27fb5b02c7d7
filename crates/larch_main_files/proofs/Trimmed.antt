-- What is trimmed is accepted.
use Rattle.std.proofs.Common.{◌≡◌, refl, sym, ap, subst, ◌∙◌, ℕ, ◌≤◌, Bool, true, false, cond, List, []}
use Rattle.std.proofs.Common.{Option, Some, None, Ok, length, nat_lt, codes, arith}
use Rattle.std.proofs.lemmas.Bool.Decides.{nat_tests}
use Rattle.larch_base.specs.declared.limits.TheConstants.{MAX_FILE_BYTES}
use Rattle.larch_calculus.specs.Derivable.{Derivable}
use Rattle.larch_calculus.specs.Renaming.{HasPlainNames}
use Rattle.larch_certificate.specs.declared.line.Line.{Line}
use Rattle.larch_certificate_text.specs.CertificateText.{certificate_text, read_certificate}
use Rattle.larch_certificate_text.proofs.CertificateLaws.{certificate_again, certificate_back}
use Rattle.larch_duties_meaning.specs.Duties.{Duty}
use Rattle.larch_io.specs.Folder.{FileMap, file_of}
use Rattle.larch_term.specs.Statement.{IsWellSortedTheory}
use Rattle.larch_term.specs.declared.statement.Statement.{Statement}
use Rattle.larch_term.specs.declared.statement.Theory.{Theory}
use Rattle.larch_traits.specs.Files.{Table}
use Rattle.larch_trim.proofs.TrimLawAccepted.{kept_accepted}
use Rattle.larch_trim.proofs.TrimLawAgain.{all_needed, trimmed_again}
use Rattle.larch_trim.proofs.TrimLawNeeded.{needed_whole}
use Rattle.larch_trim_meaning.specs.Trimmed.{needed_marks, trim_lines}
use Rattle.larch_verify_law.proofs.Verdicts.{accepted_verdict, verdict_accepts}
use Rattle.larch_verify_meaning.specs.Acceptance.{Accepts, verdict}
use Rattle.larch_words.specs.declared.call.Verification.{Verification}
use Rattle.larch_main_files.specs.Answer.{AnswersBy, IsAnswer, said}
use Rattle.larch_main_files.specs.Gather.{Gathered, TooLarge, Whole, and_then, evidence_in, fetching, gather_names}
use Rattle.larch_main_files.specs.Trim.{IsTrimmed, left_read, left_text, trimming_answer}
use Rattle.larch_main_files.specs.Verify.{duty_in, judged_by, verdict_told, verification_answer}
use Rattle.larch_main_files.specs.declared.answer.Answer.{Answer}
use Rattle.larch_main_files.specs.declared.gather.Evidence.{Evidence}
use Rattle.larch_main_status.specs.declared.status.Status.TheVariants.{Good}
use Rattle.larch_main_files.proofs.Accepted.{SameFound, answer_good, duty_worded, evidence_files, judged_good, shown_by}
use Rattle.larch_main_files.proofs.Accepted.{then_whole}
use Rattle.larch_main_files.proofs.Fitting.{left_writable}
use Rattle.larch_main_files.proofs.Left.{good_left, left_good}

-- ---- the text of a certificate that was gathered isn't too long

abbrev SameTexts : Gathered (List ℕ) → Gathered (List ℕ) → Type 0
SameTexts found other = found ≡ other

text_inj : (one other : List ℕ) → SameTexts (Whole one) (Whole other) → one ≡ other
text_inj one other e = cc

fetched_short : (name : List ℕ) (seen : Option (List ℕ)) (text : List ℕ) → fetching name seen ≡ Whole text
    → length text ≤ MAX_FILE_BYTES
fetched_short name None text e = cc
fetched_short name (Some bytes) text e = by_size (nat_lt MAX_FILE_BYTES (length bytes)) refl e
  where
    by_size : (b : Bool) → nat_lt MAX_FILE_BYTES (length bytes) ≡ b
        → SameTexts (cond b TooLarge (Whole bytes)) (Whole text) → length text ≤ MAX_FILE_BYTES
    by_size true p e = cc
    by_size false p e =
        let short : length bytes ≤ MAX_FILE_BYTES = grind (arith, nat_tests, p) in
        subst (λ t. length t ≤ MAX_FILE_BYTES) (text_inj bytes text e) short

text_same : (one e : Evidence) → SameFound (Whole one) (Whole e) → one.text ≡ e.text
text_same one e is = let same : one ≡ e = cc in ap (λ x. x.text) same

-- its text is what was fetched
pub evidence_text : (folder : FileMap) (certificate : List ℕ) (names : List (List ℕ)) (e : Evidence)
    → evidence_in folder certificate names ≡ Whole e → fetching certificate (file_of folder certificate) ≡ Whole e.text
evidence_text folder certificate names e is =
    let a = then_whole (fetching certificate (file_of folder certificate))
    (λ text. and_then (gather_names folder [] names) (λ files. Whole (record { text = text; files = files }))) e
    is in
    let b = then_whole (gather_names folder [] names)
    (λ files. Whole (record { text = a.0; files = files })) e a.2 in
    a.1 ∙ ap Whole (text_same (record { text = a.0; files = b.0 }) e b.2)

pub evidence_short : (folder : FileMap) (certificate : List ℕ) (names : List (List ℕ)) (e : Evidence)
    → evidence_in folder certificate names ≡ Whole e → length e.text ≤ MAX_FILE_BYTES
evidence_short folder certificate names e is =
    fetched_short certificate (file_of folder certificate) e.text (evidence_text folder certificate names e is)

-- ---- what is left of lines that are accepted for a duty

module _ (t : Theory) (s : Statement) (lines : List Line) (sorted : IsWellSortedTheory t) (plain : HasPlainNames t)
    (accepted : verdict t s lines ≡ None) where
  accepts : Accepts t s lines
  accepts = verdict_accepts t s lines accepted

  left_accepted : verdict t s (trim_lines lines) ≡ None
  left_accepted =
      accepted_verdict t s (trim_lines lines)
      (kept_accepted t sorted plain lines (needed_marks lines) (needed_whole t s lines accepts) s accepts)

-- the text of what is left, over the same files
module _ (asked : Verification) (files : Table) (d : Duty) (lines : List Line) (output : List ℕ)
    (found : duty_in files asked.stem asked.label ≡ Some d) (sorted : IsWellSortedTheory d.theory)
    (plain : HasPlainNames d.theory) (accepted : verdict d.theory d.statement lines ≡ None)
    (is : output ≡ left_text lines) (read : read_certificate true output ≡ Ok (true, trim_lines lines)) where
  abbrev left : Evidence
  left = record { text = output; files = files }

  left_verified : verification_answer asked.stem asked.label left ≡ said (codes "accepted\n") Good
  left_verified =
      ap (judged_by (duty_in files asked.stem asked.label)) read
      ∙ ap (λ o. judged_by o (Ok (true, trim_lines lines))) found
      ∙ ap verdict_told (left_accepted d.theory d.statement lines sorted plain accepted)

  left_again : trimming_answer asked.stem asked.label left ≡ said output Good
  left_again =
      ap (left_read (verification_answer asked.stem asked.label left)) read
      ∙ good_left (verification_answer asked.stem asked.label left) (trim_lines lines)
      (ap (λ (a : Answer). a.status) left_verified)
      ∙ ap (λ ls. said (certificate_text true ls) Good)
      (trimmed_again d.theory d.statement lines (accepts d.theory d.statement lines sorted plain accepted))
      ∙ ap (λ text. said text Good) (sym is)

module _ (law : (t : Theory) (s : Statement) (lines : List Line) → IsWellSortedTheory t → HasPlainNames t
    → verdict t s lines ≡ None → Derivable t s) where
  pub trimmed : (asked : Verification) (names : List (List ℕ)) (folder : FileMap) (output : List ℕ)
      → AnswersBy (λ evidence. IsAnswer (trimming_answer asked.stem asked.label evidence))
      (evidence_in folder asked.certificate names) output Good → IsTrimmed folder asked names output
  trimmed asked names folder output answers =
      let a = answer_good (trimming_answer asked.stem asked.label)
      (evidence_in folder asked.certificate names) output answers in
      let e : Evidence = a.0 in
      let v : Answer = verification_answer asked.stem asked.label e in
      let good = left_good v (read_certificate true e.text) a.2 in
      let j = judged_good (duty_in e.files asked.stem asked.label) (read_certificate true e.text) good in
      let d : Duty = j.0 in
      let lines : List Line = j.2.1 in
      let short = evidence_short folder asked.certificate names e a.1 in
      let w = duty_worded e.files asked.stem asked.label d j.1 in
      let is : output ≡ left_text lines =
      a.3 ∙ ap (λ (x : Answer). x.text) (ap (left_read v) j.3 ∙ good_left v lines good) in
      let writable = (certificate_back true e.text j.2.0 lines (omega (arith, short)) j.3).1 in
      let read : read_certificate true output ≡ Ok (true, trim_lines lines) =
      ap (read_certificate true) is
      ∙ certificate_again true true (trim_lines lines) refl (left_writable lines writable) in
      record {
        shown = shown_by law asked names folder e a.1 good;
        files = e.files;
        are_files = evidence_files folder asked.certificate names e a.1;
        accepted = left_verified asked e.files d lines output j.1 w.0 w.1 j.4 is read;
        lines = trim_lines lines;
        read = read;
        needed = all_needed d.theory d.statement lines (accepts d.theory d.statement lines w.0 w.1 j.4);
        again = left_again asked e.files d lines output j.1 w.0 w.1 j.4 is read;
      }
