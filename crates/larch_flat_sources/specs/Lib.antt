pub mod Building
pub mod Links
pub mod Reaching
pub mod Search
pub mod Sources
-- passed on to crates above, which then needn't list the crates that these are of
pub use Rattle.larch_flat_meaning.specs.Files as FlatMeaningFiles
pub use Rattle.larch_flat_meaning.specs.Flat as FlatMeaningFlat
pub use Rattle.larch_flat_meaning.specs.Gathered as FlatMeaningGathered
pub use Rattle.larch_flat_meaning.specs.Laws as FlatMeaningLaws
pub use Rattle.larch_flat_meaning.specs.Reach as FlatMeaningReach
pub use Rattle.larch_flat_meaning.specs.Reached as FlatMeaningReached
pub use Rattle.larch_flat_meaning.specs.Replacements as FlatMeaningReplacements
pub use Rattle.larch_flat_meaning.specs.Stops as FlatMeaningStops
pub use Rattle.larch_flat_meaning.specs.SortsMeaningFaults as SortsMeaningFaults
pub use Rattle.larch_flat_meaning.specs.TraitsItemsRefusal as TraitsItemsRefusal
pub use Rattle.larch_flat_meaning.specs.TraitsItemsRefusalTraitRefusal as TraitsItemsRefusalTraitRefusal
