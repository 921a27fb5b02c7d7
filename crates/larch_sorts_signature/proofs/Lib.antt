pub mod Arguments
pub mod ByDomain
pub mod Enough
pub mod MakersTold
-- passed on to crates above, which then needn't list the crates that these are of
pub use Rattle.larch_sorts_counts.proofs.Counting as SortsCountsCounting
pub use Rattle.larch_sorts_counts.proofs.CountsTold as SortsCountsCountsTold
pub use Rattle.larch_sorts_counts.proofs.Numbering as SortsCountsNumbering
pub use Rattle.larch_sorts_counts.proofs.SortsMeaningAnswers as SortsMeaningAnswers
pub use Rattle.larch_sorts_counts.proofs.SortsMeaningApplications as SortsMeaningApplications
pub use Rattle.larch_sorts_counts.proofs.SortsMeaningConverse as SortsMeaningConverse
pub use Rattle.larch_sorts_counts.proofs.SortsMeaningExisting as SortsMeaningExisting
pub use Rattle.larch_sorts_counts.proofs.SortsMeaningParts as SortsMeaningParts
pub use Rattle.larch_sorts_counts.proofs.SortsMeaningReadAnswers as SortsMeaningReadAnswers
pub use Rattle.larch_sorts_counts.proofs.SortsMeaningSorted as SortsMeaningSorted
pub use Rattle.larch_sorts_counts.proofs.SortsMeaningSortsRead as SortsMeaningSortsRead
pub use Rattle.larch_sorts_counts.proofs.SortsMeaningTelling as SortsMeaningTelling
pub use Rattle.larch_sorts_counts.proofs.SortsMeaningUnread as SortsMeaningUnread
