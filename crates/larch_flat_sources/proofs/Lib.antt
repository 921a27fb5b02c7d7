-- Lemmas.
pub mod Leading
pub mod Linking
pub mod Numbers
pub mod Searched
pub mod Tables
pub mod Visiting
-- passed on to crates above, which then needn't list the crates that these are of
pub use Rattle.larch_flat_meaning.proofs.Reached as FlatMeaningReached
pub use Rattle.larch_flat_meaning.proofs.Shrinking as FlatMeaningShrinking
pub use Rattle.larch_flat_meaning.proofs.Texts as FlatMeaningTexts
pub use Rattle.larch_flat_meaning.proofs.Unfolding as FlatMeaningUnfolding
pub use Rattle.larch_flat_meaning.proofs.TraitsItemsKept as TraitsItemsKept
pub use Rattle.larch_flat_meaning.proofs.TraitsItemsSteps as TraitsItemsSteps
