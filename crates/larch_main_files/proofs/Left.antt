-- What a verdict becomes where what is left takes the place of `accepted`.
use Rattle.std.proofs.Common.{◌≡◌, refl, sym, ap, ◌∙◌, ℕ, Bool, true, List, Option, Result, Ok, Err, IfOk}
use Rattle.larch_certificate.specs.declared.line.Line.{Line}
use Rattle.larch_certificate_text.specs.CertificateText.{read_certificate}
use Rattle.larch_duties_meaning.specs.Duties.{Duty}
use Rattle.larch_main_files.specs.Answer.{said}
use Rattle.larch_main_files.specs.Trim.{left_by, left_of, left_read, left_text}
use Rattle.larch_main_files.specs.Verify.{judged_by, verdict_of}
use Rattle.larch_main_files.specs.declared.answer.Answer.{Answer}
use Rattle.larch_main_status.specs.declared.status.Status.{Status}
use Rattle.larch_main_status.specs.declared.status.Status.TheVariants.{Good, Remains, Words, ReadFault, WriteFault}
use Rattle.larch_main_status.specs.declared.status.Status.TheVariants.{Memory}
use Rattle.larch_main_status.specs.declared.status.Status.TheVariants.{Malformed, Size, NoFile}
use Rattle.larch_main_files.proofs.Answering.{same_ok}

-- what holds of the status of a verdict, and of a good one, holds of what it becomes
pub left_keeps : (P : Status → Type 0) → P Good → (v : Answer) (read : Result (Bool × List Line) ℕ) → P v.status
    → P (left_read v read).status
left_keeps P good v (Err number) p = p
left_keeps P good v (Ok read) p = by_status v.status
  where
    by_status : (s : Status) → P (left_by s v read.1).status
    by_status Good = good
    by_status Remains = p
    by_status Words = p
    by_status ReadFault = p
    by_status WriteFault = p
    by_status Memory = p
    by_status Malformed = p
    by_status Size = p
    by_status NoFile = p

-- it is good only where the verdict is
pub left_good : (v : Answer) (read : Result (Bool × List Line) ℕ) → (left_read v read).status ≡ Good → v.status ≡ Good
left_good v (Err number) e = e
left_good v (Ok read) e = by_status v.status refl e
  where
    by_status : (s : Status) → v.status ≡ s → (left_by s v read.1).status ≡ Good → v.status ≡ Good
    by_status Good is e = is
    by_status Remains is e = e
    by_status Words is e = e
    by_status ReadFault is e = e
    by_status WriteFault is e = e
    by_status Memory is e = e
    by_status Malformed is e = e
    by_status Size is e = e
    by_status NoFile is e = e

-- a good verdict becomes what is left
pub good_left : (v : Answer) (lines : List Line) → v.status ≡ Good → left_of v lines ≡ said (left_text lines) Good
good_left v lines e = ap (λ s. left_by s v lines) e

-- another one stays
pub other_left : (v : Answer) (lines : List Line) → (v.status ≡ Good → ⊥) → left_of v lines ≡ v
other_left v lines other = by_status v.status refl
  where
    by_status : (s : Status) → v.status ≡ s → left_by s v lines ≡ v
    by_status Good is = absurd (other is)
    by_status Remains is = refl
    by_status Words is = refl
    by_status ReadFault is = refl
    by_status WriteFault is = refl
    by_status Memory is = refl
    by_status Malformed is = refl
    by_status Size is = refl
    by_status NoFile is = refl

-- what is answered of the lines that a text is read as
pub told_left : {E : Type 0} (duty : Option Duty) (seen text : List ℕ) (second : Bool) (lines : List Line)
    (result : Result Answer E) → seen ≡ text → read_certificate true seen ≡ Ok (second, lines)
    → IfOk result (λ answer. answer ≡ left_of (verdict_of duty lines) lines)
    → IfOk result (λ answer. answer ≡ left_read (judged_by duty (read_certificate true text))
    (read_certificate true text))
told_left duty seen text second lines result same read told =
    let is : read_certificate true text ≡ Ok (second, lines) = ap (read_certificate true) (sym same) ∙ read in
    same_ok (left_of (verdict_of duty lines) lines)
    (left_read (judged_by duty (read_certificate true text)) (read_certificate true text)) result
    (ap (λ r. left_read (judged_by duty r) r) (sym is)) told
