-- What a derivation is for who has only its text.
use Rattle.std.specs.Prelude.{◌≡◌, ℕ, true, List, bytes_eq, find, Some, None, Ok}
use Rattle.larch_base.specs.Label.{label_text}
use Rattle.larch_base.specs.declared.label.Label.{Label}
use Rattle.larch_calculus.specs.Derivable.{Derivable}
use Rattle.larch_certificate.specs.declared.line.Line.{Line}
use Rattle.larch_certificate_text.specs.CertificateText.{read_certificate}
use Rattle.larch_session_law.specs.DutiesTraitDuties.{trait_duties}
use Rattle.larch_duties_meaning.specs.Duties.{Duties, Duty, all_duties}
use Rattle.larch_session_derive_meaning.specs.Derived.{derivation_text}
use Rattle.larch_session_law.specs.TraitsFiles.{Table}
use Rattle.larch_session_law.specs.TraitsReading.{read_files}
use Rattle.larch_verify_meaning.specs.Acceptance.{verdict}

-- The trait has a duty with the label among these files: the first whose label has its text. The text is read as the
-- lines, in the second version; the verdict on them for the duty, over its own theory, is that they are accepted; so
-- its statement is derivable from it.
pub record IsVerified (files : Table) (stem : List ℕ) (label : Label) (lines : List Line) : Type 0 where
  pub duties : Duties
  pub are_duties : trait_duties (read_files files) stem ≡ Ok duties
  pub duty : Duty
  pub is_duty : find (λ d. bytes_eq (label_text label) (label_text d.label)) (all_duties duties) ≡ Some duty
  pub read : read_certificate true (derivation_text lines) ≡ Ok (true, lines)
  pub accepted : verdict duty.theory duty.statement lines ≡ None
  pub derivable : Derivable duty.theory duty.statement
