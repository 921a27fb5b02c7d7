-- Lemmas.
pub mod Entries
-- passed on to crates above, which then needn't list the crates that these are of
pub use Rattle.larch_flat_meaning.proofs.Sizes as FlatMeaningSizes
pub use Rattle.larch_flat_meaning.proofs.TraitsItemsKept as TraitsItemsKept
pub use Rattle.larch_flat_meaning.proofs.TraitsItemsSteps as TraitsItemsSteps
