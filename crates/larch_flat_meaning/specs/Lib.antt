pub mod Examples
pub mod Files
pub mod Flat
pub mod Gathered
pub mod Laws
pub mod Reach
pub mod Reached
pub mod Replacements
pub mod Stops
-- passed on to crates above, which then needn't list the crates that these are of
pub use Rattle.larch_shorthand.specs.Enumeration as ShorthandEnumeration
pub use Rattle.larch_shorthand.specs.declared.expansion.Expansion as ShorthandExpansionExpansion
pub use Rattle.larch_shorthand.specs.Operators as ShorthandOperators
pub use Rattle.larch_shorthand.specs.Refusal as ShorthandRefusal
pub use Rattle.larch_shorthand.specs.Shorthand as ShorthandShorthand
pub use Rattle.larch_shorthand.specs.Tuple as ShorthandTuple
pub use Rattle.larch_shorthand.specs.Union as ShorthandUnion
pub use Rattle.larch_shorthand.specs.SortsKnownSorts as SortsKnownSorts
pub use Rattle.larch_shorthand.specs.SortsMeaningFaults as SortsMeaningFaults
pub use Rattle.larch_shorthand.specs.SortsMeaningLaws as SortsMeaningLaws
pub use Rattle.larch_shorthand.specs.SortsMeaningRead as SortsMeaningRead
pub use Rattle.larch_shorthand.specs.SortsMeaningReadingLists as SortsMeaningReadingLists
pub use Rattle.larch_shorthand.specs.SortsMeaningRefusal as SortsMeaningRefusal
pub use Rattle.larch_shorthand.specs.SortsMeaningScope as SortsMeaningScope
pub use Rattle.larch_shorthand.specs.SortsMeaningUnknown as SortsMeaningUnknown
pub use Rattle.larch_shorthand.specs.TraitsItemsDeclarations as TraitsItemsDeclarations
pub use Rattle.larch_shorthand.specs.TraitsItemsItems as TraitsItemsItems
pub use Rattle.larch_shorthand.specs.TraitsItemsLaws as TraitsItemsLaws
pub use Rattle.larch_shorthand.specs.TraitsItemsReferences as TraitsItemsReferences
pub use Rattle.larch_shorthand.specs.TraitsItemsRefusal as TraitsItemsRefusal
pub use Rattle.larch_shorthand.specs.TraitsItemsRefusalTraitRefusal as TraitsItemsRefusalTraitRefusal
pub use Rattle.larch_shorthand.specs.TraitsItemsVariables as TraitsItemsVariables
