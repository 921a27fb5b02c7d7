-- Lemmas.
pub mod Collected
pub mod Filling
pub mod Keeping
pub mod Moving
pub mod Searched
-- passed on to crates above, which then needn't list the crates that these are of
pub use Rattle.larch_trim_law.proofs.Accepted as TrimLawAccepted
pub use Rattle.larch_trim_law.proofs.Again as TrimLawAgain
pub use Rattle.larch_trim_law.proofs.Needed as TrimLawNeeded
pub use Rattle.larch_trim_law.proofs.Numbers as TrimLawNumbers
