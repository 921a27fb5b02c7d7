pub mod Claims
pub mod Conversions
pub mod Duties
pub mod Examples
pub mod Implied
pub mod Laws
pub mod Listed
pub mod Listing
-- passed on to crates above, which then needn't list the crates that these are of
pub use Rattle.larch_calculus.specs.Renaming as CalculusRenaming
pub use Rattle.larch_flat_meaning.specs.Flat as FlatMeaningFlat
pub use Rattle.larch_flat_meaning.specs.Laws as FlatMeaningLaws
pub use Rattle.larch_flat_meaning.specs.Reached as FlatMeaningReached
pub use Rattle.larch_flat_meaning.specs.Stops as FlatMeaningStops
pub use Rattle.larch_flat_meaning.specs.SortsMeaningLaws as SortsMeaningLaws
pub use Rattle.larch_flat_meaning.specs.TraitsItemsLaws as TraitsItemsLaws
pub use Rattle.larch_flat_meaning.specs.TraitsItemsRefusal as TraitsItemsRefusal
