pub mod Accepting
pub mod Codes
pub mod Decoding
pub mod Growth
pub mod Pushing
pub mod Runs
pub mod Start
pub mod Unchanged
pub mod Words
-- passed on to crates above, which then needn't list the crates that these are of
pub use Rattle.larch_verify_meaning.proofs.CalculusIdentities as CalculusIdentities
pub use Rattle.larch_verify_meaning.proofs.CalculusSorted as CalculusSorted
pub use Rattle.larch_verify_meaning.proofs.RenamingRenamedSubstitutions as RenamingRenamedSubstitutions
pub use Rattle.larch_verify_meaning.proofs.TablesIdentities as TablesIdentities
pub use Rattle.larch_verify_meaning.proofs.TermLawSubstitutions as TermLawSubstitutions
