-- Lemmas.
pub mod Expansions
pub mod Fine
-- passed on to crates above, which then needn't list the crates that these are of
pub use Rattle.larch_traits_items.proofs.SortsMeaningReadAnswers as SortsMeaningReadAnswers
pub use Rattle.larch_traits_items.proofs.SortsMeaningSorted as SortsMeaningSorted
pub use Rattle.larch_traits_items.proofs.SortsMeaningSortsRead as SortsMeaningSortsRead
pub use Rattle.larch_traits_items.proofs.Kept as TraitsItemsKept
pub use Rattle.larch_traits_items.proofs.Stated as TraitsItemsStated
pub use Rattle.larch_traits_items.proofs.Steps as TraitsItemsSteps
