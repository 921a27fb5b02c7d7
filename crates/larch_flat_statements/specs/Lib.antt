pub mod HashInput
pub mod MarkedCode
pub mod Marks
-- passed on to crates above, which then needn't list the crates that these are of
pub use Rattle.larch_flat_meaning.specs.Flat as FlatMeaningFlat
pub use Rattle.larch_flat_meaning.specs.Gathered as FlatMeaningGathered
pub use Rattle.larch_flat_meaning.specs.Laws as FlatMeaningLaws
pub use Rattle.larch_flat_meaning.specs.ShorthandExpansionExpansion as ShorthandExpansionExpansion
pub use Rattle.larch_flat_meaning.specs.ShorthandRefusal as ShorthandRefusal
pub use Rattle.larch_flat_meaning.specs.ShorthandShorthand as ShorthandShorthand
pub use Rattle.larch_flat_meaning.specs.SortsMeaningFaults as SortsMeaningFaults
pub use Rattle.larch_flat_meaning.specs.TraitsItemsDeclarations as TraitsItemsDeclarations
pub use Rattle.larch_flat_meaning.specs.TraitsItemsItems as TraitsItemsItems
pub use Rattle.larch_flat_meaning.specs.TraitsItemsRefusal as TraitsItemsRefusal
pub use Rattle.larch_flat_meaning.specs.TraitsItemsRefusalTraitRefusal as TraitsItemsRefusalTraitRefusal
