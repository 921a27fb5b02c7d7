pub mod Narrow
pub mod Sides
pub mod Tabulate
-- passed on to crates above, which then needn't list the crates that these are of
pub use Rattle.larch_sorts_signature.specs.SortsKnownSorts as SortsKnownSorts
pub use Rattle.larch_sorts_signature.specs.SortsMeaningFaults as SortsMeaningFaults
pub use Rattle.larch_sorts_signature.specs.SortsMeaningLaws as SortsMeaningLaws
pub use Rattle.larch_sorts_signature.specs.SortsMeaningRead as SortsMeaningRead
pub use Rattle.larch_sorts_signature.specs.SortsMeaningReadingLists as SortsMeaningReadingLists
pub use Rattle.larch_sorts_signature.specs.SortsMeaningReadings as SortsMeaningReadings
pub use Rattle.larch_sorts_signature.specs.SortsMeaningRefusal as SortsMeaningRefusal
pub use Rattle.larch_sorts_signature.specs.SortsMeaningScope as SortsMeaningScope
pub use Rattle.larch_sorts_signature.specs.SortsMeaningUnknown as SortsMeaningUnknown
