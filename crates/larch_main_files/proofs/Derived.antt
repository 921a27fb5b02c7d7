-- What is derived may be answered, and is accepted.
use Rattle.std.proofs.Common.{◌≡◌, refl, ap, ◌∙◌, ℕ, true, List, [], Option, Some, None, Result, Ok, Err}
use Rattle.std.specs.Prelude.{IfOk, codes}
use Rattle.larch_base.specs.Label.{label_text}
use Rattle.larch_certificate.specs.declared.line.Line.{Line}
use Rattle.larch_certificate_text.specs.CertificateText.{read_certificate}
use Rattle.larch_io.specs.Folder.{FileMap}
use Rattle.larch_session_derive_meaning.proofs.Shown.{derived_verified}
use Rattle.larch_session_derive_meaning.specs.Derived.{Derives}
use Rattle.larch_session_derive_meaning.specs.Verified.{IsVerified}
use Rattle.larch_traits.specs.Files.{Table}
use Rattle.larch_words.specs.declared.call.DutyName.{DutyName}
use Rattle.larch_main_files.specs.Answer.{AnswersBy, IsAnswer, said}
use Rattle.larch_main_files.specs.Derive.{IsDerivation, MayDerive, derivation_answer}
use Rattle.larch_main_files.specs.Gather.{Gathered, Absent, TooLarge, Whole, gather_names}
use Rattle.larch_main_files.specs.Verify.{duty_among, duty_in, judged_by, verdict_of, verdict_told, verification_answer}
use Rattle.larch_main_files.specs.declared.answer.Answer.{Answer}
use Rattle.larch_main_files.proofs.Answering.{is_answer}
use Rattle.larch_main_status.specs.declared.status.Status.TheVariants.{Good, NoFile, Remains, Size}

-- what is derived may be answered
pub derivation_told : {E : Type 0} (limit : ℕ) (asked : DutyName) (files : Table) (derived : Option (List Line))
    (result : Result Answer E) → Derives limit files asked.stem asked.label derived
    → IfOk result (λ answer. answer ≡ derivation_answer derived)
    → IfOk result (λ answer. MayDerive limit asked files answer.text answer.status)
derivation_told limit asked files derived (Ok answer) derives is = record {
  derivation = derived;
  derives = derives;
  answers = is_answer answer (derivation_answer derived) is;
}
derivation_told limit asked files derived (Err error) derives is = tt

-- what is derived is accepted
module _ (asked : DutyName) (limit : ℕ) (names : List (List ℕ)) (folder : FileMap) (output : List ℕ) where
  -- the text of lines that are verified is accepted
  module _ (files : Table) (lines : List Line) (v : IsVerified files asked.stem asked.label lines)
      (read : read_certificate true output ≡ Ok (true, lines)) where
    is_duty : duty_in files asked.stem asked.label ≡ Some v.duty
    is_duty = ap (duty_among (label_text asked.label)) v.are_duties ∙ v.is_duty

    text_accepted : verification_answer asked.stem asked.label (record { text = output; files = files })
        ≡ said (codes "accepted\n") Good
    text_accepted =
        ap (judged_by (duty_in files asked.stem asked.label)) read ∙ ap (λ d. verdict_of d lines) is_duty
        ∙ ap verdict_told v.accepted

  by_lines : (files : Table) → gather_names folder [] names ≡ Whole files → (derived : Option (List Line))
      → Derives limit files asked.stem asked.label derived → IsAnswer (derivation_answer derived) output Good
      → IsDerivation folder asked names output
  by_lines files from None derives answer = let other : Good ≡ Remains = answer.1 in absurd cc
  by_lines files from (Some lines) derives answer =
      let v = derived_verified limit files asked.stem asked.label lines derives in
      record {
        files = files;
        are_files = from;
        lines = lines;
        is_text = answer.0;
        verified = v;
        accepted = text_accepted files lines v (ap (read_certificate true) answer.0 ∙ v.read);
      }

  by_files : (found : Gathered Table) → gather_names folder [] names ≡ found
      → AnswersBy (MayDerive limit asked) found output Good → IsDerivation folder asked names output
  by_files (Whole files) from may = by_lines files from may.derivation may.derives may.answers
  by_files (Absent name) from answer = let other : Good ≡ NoFile = answer.1 in absurd cc
  by_files TooLarge from answer = let other : Good ≡ Size = answer.1 in absurd cc

  pub derived_accepted : AnswersBy (MayDerive limit asked) (gather_names folder [] names) output Good
      → IsDerivation folder asked names output
  derived_accepted = by_files (gather_names folder [] names) refl
