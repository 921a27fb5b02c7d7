-- Lemmas.
pub mod ByParts
pub mod Copying
pub mod Counts
pub mod Distinct
pub mod Elsewhere
pub mod Found
pub mod Free
pub mod Labels
pub mod Lines
pub mod Listed
pub mod Once
pub mod OwnKept
pub mod OwnDuties
pub mod Places
pub mod References
pub mod Worded
-- passed on to crates above, which then needn't list the crates that these are of
pub use Rattle.larch_flat_meaning.proofs.Gathering as FlatMeaningGathering
pub use Rattle.larch_flat_meaning.proofs.Proper as FlatMeaningProper
