pub mod Boxes
-- passed on to crates above, which then needn't list the crates that these are of
pub use Rattle.larch_verify_law.specs.CalculusFormula as CalculusFormula
pub use Rattle.larch_verify_law.specs.CalculusGeneration as CalculusGeneration
pub use Rattle.larch_verify_law.specs.CalculusObservation as CalculusObservation
pub use Rattle.larch_verify_law.specs.CalculusRenaming as CalculusRenaming
pub use Rattle.larch_derive.specs.CertificateTextEquationText as CertificateTextEquationText
pub use Rattle.larch_derive.specs.CertificateTextLineText as CertificateTextLineText
pub use Rattle.larch_derive.specs.Builder as DeriveBuilder
pub use Rattle.larch_derive.specs.declared.builder.Builder as DeriveBuilderBuilder
pub use Rattle.larch_derive.specs.OpenBox as DeriveOpenBox
pub use Rattle.larch_derive.specs.declared.open_box.OpenBox as DeriveOpen_boxOpenBox
pub use Rattle.larch_derive.specs.Predicates as DerivePredicates
pub use Rattle.larch_derive.specs.Words as DeriveWords
pub use Rattle.larch_verify_law.specs.RenamingRenaming as RenamingRenaming
pub use Rattle.larch_verify_law.specs.VerifyMeaningBoxRules as VerifyMeaningBoxRules
pub use Rattle.larch_verify_law.specs.VerifyMeaningClauseRules as VerifyMeaningClauseRules
pub use Rattle.larch_verify_law.specs.VerifyMeaningContext as VerifyMeaningContext
pub use Rattle.larch_verify_law.specs.VerifyMeaningDecoding as VerifyMeaningDecoding
pub use Rattle.larch_verify_law.specs.VerifyMeaningEvents as VerifyMeaningEvents
pub use Rattle.larch_verify_law.specs.VerifyMeaningLastLine as VerifyMeaningLastLine
pub use Rattle.larch_verify_law.specs.VerifyMeaningMatching as VerifyMeaningMatching
pub use Rattle.larch_verify_law.specs.VerifyMeaningRun as VerifyMeaningRun
