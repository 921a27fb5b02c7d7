pub mod Count
pub mod Counted
pub mod Counts
pub mod NumberView
pub mod Numbers
pub mod Spread
-- passed on to crates above, which then needn't list the crates that these are of
pub use Rattle.larch_sorts_meaning.specs.SortsKnownSorts as SortsKnownSorts
pub use Rattle.larch_sorts_meaning.specs.Faults as SortsMeaningFaults
pub use Rattle.larch_sorts_meaning.specs.Found as SortsMeaningFound
pub use Rattle.larch_sorts_meaning.specs.declared.found.Found as SortsMeaningFoundFound
pub use Rattle.larch_sorts_meaning.specs.Laws as SortsMeaningLaws
pub use Rattle.larch_sorts_meaning.specs.Parts as SortsMeaningParts
pub use Rattle.larch_sorts_meaning.specs.Read as SortsMeaningRead
pub use Rattle.larch_sorts_meaning.specs.ReadingLists as SortsMeaningReadingLists
pub use Rattle.larch_sorts_meaning.specs.Readings as SortsMeaningReadings
pub use Rattle.larch_sorts_meaning.specs.Refusal as SortsMeaningRefusal
pub use Rattle.larch_sorts_meaning.specs.declared.refusal.ReadRefusal as SortsMeaningRefusalReadRefusal
pub use Rattle.larch_sorts_meaning.specs.Scope as SortsMeaningScope
pub use Rattle.larch_sorts_meaning.specs.Signature as SortsMeaningSignature
pub use Rattle.larch_sorts_meaning.specs.Stands as SortsMeaningStands
pub use Rattle.larch_sorts_meaning.specs.Unknown as SortsMeaningUnknown
