pub mod Enumeration
pub mod Examples
pub mod Expansion
pub mod Operators
pub mod Refusal
pub mod Shorthand
pub mod Tuple
pub mod Union
-- passed on to crates above, which then needn't list the crates that these are of
pub use Rattle.larch_traits_items.specs.BaseMeaningSteps as BaseMeaningSteps
pub use Rattle.larch_traits_items.specs.BaseMeaningWord as BaseMeaningWord
pub use Rattle.larch_traits_items.specs.SortsKnownSorts as SortsKnownSorts
pub use Rattle.larch_traits_items.specs.SortsMeaningFaults as SortsMeaningFaults
pub use Rattle.larch_traits_items.specs.SortsMeaningLaws as SortsMeaningLaws
pub use Rattle.larch_traits_items.specs.SortsMeaningRead as SortsMeaningRead
pub use Rattle.larch_traits_items.specs.SortsMeaningReadingLists as SortsMeaningReadingLists
pub use Rattle.larch_traits_items.specs.SortsMeaningRefusal as SortsMeaningRefusal
pub use Rattle.larch_traits_items.specs.SortsMeaningScope as SortsMeaningScope
pub use Rattle.larch_traits_items.specs.SortsMeaningUnknown as SortsMeaningUnknown
pub use Rattle.larch_traits_items.specs.Declarations as TraitsItemsDeclarations
pub use Rattle.larch_traits_items.specs.Items as TraitsItemsItems
pub use Rattle.larch_traits_items.specs.Laws as TraitsItemsLaws
pub use Rattle.larch_traits_items.specs.References as TraitsItemsReferences
pub use Rattle.larch_traits_items.specs.Refusal as TraitsItemsRefusal
pub use Rattle.larch_traits_items.specs.declared.refusal.TraitRefusal as TraitsItemsRefusalTraitRefusal
pub use Rattle.larch_traits_items.specs.Variables as TraitsItemsVariables
