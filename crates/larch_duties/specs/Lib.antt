pub mod DutiesCode
pub mod Finding
pub mod Kept
pub mod Labelling
pub mod Lines
pub mod Names
pub mod Own
pub mod Steps
pub mod TraitDuties
-- passed on to crates above, which then needn't list the crates that these are of
pub use Rattle.larch_flat_meaning.specs.Files as FlatMeaningFiles
pub use Rattle.larch_flat_meaning.specs.Flat as FlatMeaningFlat
pub use Rattle.larch_flat_meaning.specs.Gathered as FlatMeaningGathered
pub use Rattle.larch_flat_meaning.specs.Stops as FlatMeaningStops
