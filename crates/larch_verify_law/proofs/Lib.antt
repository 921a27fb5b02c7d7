-- Lemmas.
pub mod Accepted
pub mod BoxRules
pub mod Carried
pub mod ClauseRules
pub mod Contexts
pub mod Decoded
pub mod MovedClauses
pub mod MovedRules
pub mod MovedTerms
pub mod MovedTests
pub mod Prefixes
pub mod Rules
pub mod Runs
pub mod Told
pub mod Verdicts
-- passed on to crates above, which then needn't list the crates that these are of
pub use Rattle.larch_verify_meaning.proofs.CalculusFreeing as CalculusFreeing
pub use Rattle.larch_verify_meaning.proofs.CalculusObserved as CalculusObserved
pub use Rattle.larch_verify_meaning.proofs.CalculusRenamed as CalculusRenamed
pub use Rattle.larch_verify_meaning.proofs.CalculusRenamedHypotheses as CalculusRenamedHypotheses
pub use Rattle.larch_verify_meaning.proofs.CalculusSorted as CalculusSorted
pub use Rattle.larch_verify_meaning.proofs.RenamingRenamed as RenamingRenamed
pub use Rattle.larch_verify_meaning.proofs.RenamingRenamedStatements as RenamingRenamedStatements
pub use Rattle.larch_verify_meaning.proofs.RenamingRenamedSubstitutions as RenamingRenamedSubstitutions
pub use Rattle.larch_verify_meaning.proofs.TablesIdentities as TablesIdentities
pub use Rattle.larch_verify_meaning.proofs.TermLawSubstitutions as TermLawSubstitutions
