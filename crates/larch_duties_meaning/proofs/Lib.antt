-- Lemmas.
pub mod Claims
mod Conversions
mod Copies
mod Each
mod Fresh
mod Implied
pub mod OneTheory
pub mod Plain
pub mod Reached
pub mod Sound
pub mod Told
pub mod Words
-- passed on to crates above, which then needn't list the crates that these are of
pub use Rattle.larch_flat_meaning.proofs.DeepEnough as FlatMeaningDeepEnough
pub use Rattle.larch_flat_meaning.proofs.Reached as FlatMeaningReached
pub use Rattle.larch_flat_meaning.proofs.Theory as FlatMeaningTheory
pub use Rattle.larch_flat_meaning.proofs.Variables as FlatMeaningVariables
pub use Rattle.larch_flat_meaning.proofs.Words as FlatMeaningWords
pub use Rattle.larch_flat_meaning.proofs.TraitsItemsKept as TraitsItemsKept
