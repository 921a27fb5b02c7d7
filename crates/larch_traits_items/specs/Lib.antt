pub mod Declarations
pub mod Index
pub mod Items
pub mod Laws
pub mod Presentation
pub mod References
pub mod Refusal
pub mod Variables
-- passed on to crates above, which then needn't list the crates that these are of
pub use Rattle.larch_base_meaning.specs.Steps as BaseMeaningSteps
pub use Rattle.larch_base_meaning.specs.Word as BaseMeaningWord
pub use Rattle.larch_raw.specs.declared.declared.RawWord as RawRawWord
pub use Rattle.larch_raw.specs.declared.shorthand.RawField as RawShorthandRawField
pub use Rattle.larch_raw.specs.declared.shorthand.RawShorthand as RawShorthandRawShorthand
pub use Rattle.larch_raw.specs.Worded as RawWorded
pub use Rattle.larch_sorts.specs.SortsKnownSorts as SortsKnownSorts
pub use Rattle.larch_sorts.specs.SortsMeaningFaults as SortsMeaningFaults
pub use Rattle.larch_sorts.specs.SortsMeaningLaws as SortsMeaningLaws
pub use Rattle.larch_sorts.specs.SortsMeaningRead as SortsMeaningRead
pub use Rattle.larch_sorts.specs.SortsMeaningReadingLists as SortsMeaningReadingLists
pub use Rattle.larch_sorts.specs.SortsMeaningRefusal as SortsMeaningRefusal
pub use Rattle.larch_sorts.specs.SortsMeaningScope as SortsMeaningScope
pub use Rattle.larch_sorts.specs.SortsMeaningUnknown as SortsMeaningUnknown
