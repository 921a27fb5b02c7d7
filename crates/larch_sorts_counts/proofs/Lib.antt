pub mod Counting
pub mod CountsTold
pub mod InCommon
pub mod Numbering
pub mod Products
pub mod Spreading
-- passed on to crates above, which then needn't list the crates that these are of
pub use Rattle.larch_sorts_meaning.proofs.Answers as SortsMeaningAnswers
pub use Rattle.larch_sorts_meaning.proofs.Applications as SortsMeaningApplications
pub use Rattle.larch_sorts_meaning.proofs.Converse as SortsMeaningConverse
pub use Rattle.larch_sorts_meaning.proofs.Existing as SortsMeaningExisting
pub use Rattle.larch_sorts_meaning.proofs.Kept as SortsMeaningKept
pub use Rattle.larch_sorts_meaning.proofs.Parts as SortsMeaningParts
pub use Rattle.larch_sorts_meaning.proofs.ReadAnswers as SortsMeaningReadAnswers
pub use Rattle.larch_sorts_meaning.proofs.Sorted as SortsMeaningSorted
pub use Rattle.larch_sorts_meaning.proofs.SortsRead as SortsMeaningSortsRead
pub use Rattle.larch_sorts_meaning.proofs.Telling as SortsMeaningTelling
pub use Rattle.larch_sorts_meaning.proofs.Unread as SortsMeaningUnread
