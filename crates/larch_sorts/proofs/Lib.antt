pub mod OnlyReadings
pub mod Picked
pub mod SidesAnswers
pub mod SidesTold
pub mod Tables
pub mod ToldByCounts
pub mod UnknownSorts
-- passed on to crates above, which then needn't list the crates that these are of
pub use Rattle.larch_sorts_signature.proofs.SortsMeaningExisting as SortsMeaningExisting
pub use Rattle.larch_sorts_signature.proofs.SortsMeaningReadAnswers as SortsMeaningReadAnswers
pub use Rattle.larch_sorts_signature.proofs.SortsMeaningSorted as SortsMeaningSorted
pub use Rattle.larch_sorts_signature.proofs.SortsMeaningSortsRead as SortsMeaningSortsRead
