pub mod Builder
pub mod Coding
pub mod Finished
pub mod Index
pub mod OpenBox
pub mod Predicates
pub mod TheoryCode
pub mod Words
-- passed on to crates above, which then needn't list the crates that these are of
pub use Rattle.larch_verify_meaning.specs.CalculusFormula as CalculusFormula
pub use Rattle.larch_verify_meaning.specs.CalculusTheories as CalculusTheories
pub use Rattle.larch_certificate_text.specs.CertificateLineBinding as CertificateLineBinding
pub use Rattle.larch_certificate_text.specs.CertificateLineLine as CertificateLineLine
pub use Rattle.larch_certificate_text.specs.CertificateText as CertificateTextCertificateText
pub use Rattle.larch_certificate_text.specs.EquationText as CertificateTextEquationText
pub use Rattle.larch_certificate_text.specs.LineText as CertificateTextLineText
pub use Rattle.larch_certificate_text.specs.Parts as CertificateTextParts
pub use Rattle.larch_verify_meaning.specs.RenamingRenaming as RenamingRenaming
pub use Rattle.larch_verify_meaning.specs.TablesRow as TablesRow
pub use Rattle.larch_verify_meaning.specs.TablesSpelling as TablesSpelling
pub use Rattle.larch_verify_meaning.specs.TablesStatement as TablesStatement
pub use Rattle.larch_verify_meaning.specs.TablesTables as TablesTables
pub use Rattle.larch_verify_meaning.specs.Acceptance as VerifyMeaningAcceptance
pub use Rattle.larch_verify_meaning.specs.ClauseRules as VerifyMeaningClauseRules
pub use Rattle.larch_verify_meaning.specs.Context as VerifyMeaningContext
pub use Rattle.larch_verify_meaning.specs.Decoding as VerifyMeaningDecoding
pub use Rattle.larch_verify_meaning.specs.Events as VerifyMeaningEvents
pub use Rattle.larch_verify_meaning.specs.LastLine as VerifyMeaningLastLine
pub use Rattle.larch_verify_meaning.specs.Matching as VerifyMeaningMatching
pub use Rattle.larch_verify_meaning.specs.Rules as VerifyMeaningRules
pub use Rattle.larch_verify_meaning.specs.Run as VerifyMeaningRun
