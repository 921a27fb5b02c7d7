-- No lemmas: each contract is answered by what the definitions compute.

-- passed on to crates above, which then needn't list the crates that these are of
pub use Rattle.larch_tables.proofs.CalculusBoxes as CalculusBoxes
pub use Rattle.larch_tables.proofs.CalculusDerivedRules as CalculusDerivedRules
pub use Rattle.larch_tables.proofs.CalculusFreeing as CalculusFreeing
pub use Rattle.larch_tables.proofs.CalculusIdentities as CalculusIdentities
pub use Rattle.larch_tables.proofs.CalculusObserved as CalculusObserved
pub use Rattle.larch_tables.proofs.CalculusRenamed as CalculusRenamed
pub use Rattle.larch_tables.proofs.CalculusRenamedHypotheses as CalculusRenamedHypotheses
pub use Rattle.larch_tables.proofs.CalculusSorted as CalculusSorted
pub use Rattle.larch_tables.proofs.RenamingRenamed as RenamingRenamed
pub use Rattle.larch_tables.proofs.RenamingRenamedStatements as RenamingRenamedStatements
pub use Rattle.larch_tables.proofs.RenamingRenamedSubstitutions as RenamingRenamedSubstitutions
pub use Rattle.larch_tables.proofs.Identities as TablesIdentities
pub use Rattle.larch_tables.proofs.TermLawOccurring as TermLawOccurring
pub use Rattle.larch_tables.proofs.TermLawPlaces as TermLawPlaces
pub use Rattle.larch_tables.proofs.TermLawSubstitutions as TermLawSubstitutions
