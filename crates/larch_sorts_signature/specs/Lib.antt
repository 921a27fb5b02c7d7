pub mod Application
pub mod Domains
pub mod Makers
pub mod Operators
pub mod Overloads
pub mod Places
pub mod ReadingFalls
pub mod ReadingView
pub mod Table
-- passed on to crates above, which then needn't list the crates that these are of
pub use Rattle.larch_sorts_counts.specs.Count as SortsCountsCount
pub use Rattle.larch_sorts_counts.specs.declared.count.Count as SortsCountsCountCount
pub use Rattle.larch_sorts_counts.specs.Counted as SortsCountsCounted
pub use Rattle.larch_sorts_counts.specs.Counts as SortsCountsCounts
pub use Rattle.larch_sorts_counts.specs.Numbers as SortsCountsNumbers
pub use Rattle.larch_sorts_counts.specs.declared.numbers.Numbers as SortsCountsNumbersNumbers
pub use Rattle.larch_sorts_counts.specs.SortsKnownSorts as SortsKnownSorts
pub use Rattle.larch_sorts_counts.specs.SortsMeaningFaults as SortsMeaningFaults
pub use Rattle.larch_sorts_counts.specs.SortsMeaningFound as SortsMeaningFound
pub use Rattle.larch_sorts_counts.specs.SortsMeaningFoundFound as SortsMeaningFoundFound
pub use Rattle.larch_sorts_counts.specs.SortsMeaningLaws as SortsMeaningLaws
pub use Rattle.larch_sorts_counts.specs.SortsMeaningParts as SortsMeaningParts
pub use Rattle.larch_sorts_counts.specs.SortsMeaningRead as SortsMeaningRead
pub use Rattle.larch_sorts_counts.specs.SortsMeaningReadingLists as SortsMeaningReadingLists
pub use Rattle.larch_sorts_counts.specs.SortsMeaningReadings as SortsMeaningReadings
pub use Rattle.larch_sorts_counts.specs.SortsMeaningRefusal as SortsMeaningRefusal
pub use Rattle.larch_sorts_counts.specs.SortsMeaningRefusalReadRefusal as SortsMeaningRefusalReadRefusal
pub use Rattle.larch_sorts_counts.specs.SortsMeaningScope as SortsMeaningScope
pub use Rattle.larch_sorts_counts.specs.SortsMeaningSignature as SortsMeaningSignature
pub use Rattle.larch_sorts_counts.specs.SortsMeaningStands as SortsMeaningStands
pub use Rattle.larch_sorts_counts.specs.SortsMeaningUnknown as SortsMeaningUnknown
