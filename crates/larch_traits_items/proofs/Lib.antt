pub mod Indexed
pub mod Kept
pub mod Presented
pub mod Stated
pub mod Steps
pub mod Theories
-- passed on to crates above, which then needn't list the crates that these are of
pub use Rattle.larch_sorts.proofs.SortsMeaningReadAnswers as SortsMeaningReadAnswers
pub use Rattle.larch_sorts.proofs.SortsMeaningSorted as SortsMeaningSorted
pub use Rattle.larch_sorts.proofs.SortsMeaningSortsRead as SortsMeaningSortsRead
