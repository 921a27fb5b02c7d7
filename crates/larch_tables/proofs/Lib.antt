-- Lemmas.
pub mod Consequences
pub mod Identities
pub mod Offered
-- passed on to crates above, which then needn't list the crates that these are of
pub use Rattle.larch_calculus.proofs.Boxes as CalculusBoxes
pub use Rattle.larch_calculus.proofs.DerivedRules as CalculusDerivedRules
pub use Rattle.larch_calculus.proofs.Freeing as CalculusFreeing
pub use Rattle.larch_calculus.proofs.Identities as CalculusIdentities
pub use Rattle.larch_calculus.proofs.Observed as CalculusObserved
pub use Rattle.larch_calculus.proofs.Renamed as CalculusRenamed
pub use Rattle.larch_calculus.proofs.RenamedHypotheses as CalculusRenamedHypotheses
pub use Rattle.larch_calculus.proofs.Sorted as CalculusSorted
pub use Rattle.larch_calculus.proofs.RenamingRenamed as RenamingRenamed
pub use Rattle.larch_calculus.proofs.RenamingRenamedStatements as RenamingRenamedStatements
pub use Rattle.larch_calculus.proofs.RenamingRenamedSubstitutions as RenamingRenamedSubstitutions
pub use Rattle.larch_calculus.proofs.TermLawOccurring as TermLawOccurring
pub use Rattle.larch_calculus.proofs.TermLawPlaces as TermLawPlaces
pub use Rattle.larch_calculus.proofs.TermLawSubstitutions as TermLawSubstitutions
