-- Lemmas.
pub mod Agreement
pub mod Closures
pub mod Counting
pub mod DeepEnough
pub mod Depth
pub mod EachOperator
pub mod Every
pub mod Gathering
pub mod Proper
pub mod Reached
pub mod Sizes
pub mod Sound
pub mod Shrinking
pub mod Stated
pub mod Texts
pub mod Theory
pub mod Unfolding
pub mod Words
pub mod Variables
-- passed on to crates above, which then needn't list the crates that these are of
pub use Rattle.larch_shorthand.proofs.SortsMeaningReadAnswers as SortsMeaningReadAnswers
pub use Rattle.larch_shorthand.proofs.SortsMeaningSorted as SortsMeaningSorted
pub use Rattle.larch_shorthand.proofs.SortsMeaningSortsRead as SortsMeaningSortsRead
pub use Rattle.larch_shorthand.proofs.TraitsItemsKept as TraitsItemsKept
pub use Rattle.larch_shorthand.proofs.TraitsItemsStated as TraitsItemsStated
pub use Rattle.larch_shorthand.proofs.TraitsItemsSteps as TraitsItemsSteps
