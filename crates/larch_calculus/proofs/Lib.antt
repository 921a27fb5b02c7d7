-- Lemmas.
pub mod Boxes
pub mod DerivedRules
pub mod Extended
pub mod Extension
pub mod Formulas
pub mod Freeing
pub mod Identities
pub mod Inductions
pub mod Names
pub mod Numbers
pub mod Observed
pub mod Renamed
pub mod RenamedHypotheses
pub mod RenamedTheories
pub mod Sorted
pub mod Translation
pub mod WellSorted
-- passed on to crates above, which then needn't list the crates that these are of
pub use Rattle.larch_term.proofs.BaseBools as BaseBools
pub use Rattle.larch_term.proofs.BaseOptions as BaseOptions
pub use Rattle.larch_renaming.proofs.Renamed as RenamingRenamed
pub use Rattle.larch_renaming.proofs.RenamedStatements as RenamingRenamedStatements
pub use Rattle.larch_renaming.proofs.RenamedSubstitutions as RenamingRenamedSubstitutions
pub use Rattle.larch_term_law.proofs.Agreement as TermLawAgreement
pub use Rattle.larch_term_law.proofs.Occurring as TermLawOccurring
pub use Rattle.larch_term_law.proofs.Places as TermLawPlaces
pub use Rattle.larch_term_law.proofs.Substitutions as TermLawSubstitutions
