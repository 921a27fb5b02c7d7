pub mod Examples
pub mod Files
pub mod Redone
pub mod Traits
-- passed on to crates above, which then needn't list the crates that these are of
pub use Rattle.larch_traits.specs.DutiesMeaningClaims as DutiesMeaningClaims
pub use Rattle.larch_traits.specs.DutiesMeaningConversions as DutiesMeaningConversions
pub use Rattle.larch_traits.specs.DutiesMeaningDuties as DutiesMeaningDuties
pub use Rattle.larch_traits.specs.DutiesMeaningImplied as DutiesMeaningImplied
pub use Rattle.larch_traits.specs.DutiesMeaningLaws as DutiesMeaningLaws
pub use Rattle.larch_duties.specs.Own as DutiesOwn
pub use Rattle.larch_duties.specs.declared.own.OwnClaims as DutiesOwnOwnClaims
pub use Rattle.larch_duties.specs.TraitDuties as DutiesTraitDuties
pub use Rattle.larch_traits.specs.FlatKnown as FlatKnown
pub use Rattle.larch_duties.specs.FlatMeaningFiles as FlatMeaningFiles
pub use Rattle.larch_duties.specs.FlatMeaningFlat as FlatMeaningFlat
pub use Rattle.larch_duties.specs.FlatMeaningGathered as FlatMeaningGathered
pub use Rattle.larch_duties.specs.FlatMeaningStops as FlatMeaningStops
pub use Rattle.larch_traits.specs.FlatParts as FlatParts
pub use Rattle.larch_traits.specs.FlatSourcesSources as FlatSourcesSources
pub use Rattle.larch_prove_meaning.specs.Reports as ProveMeaningReports
pub use Rattle.larch_prove_meaning.specs.Scripts as ProveMeaningScripts
pub use Rattle.larch_script.specs.Scripts as ScriptScripts
pub use Rattle.larch_traits.specs.Files as TraitsFiles
pub use Rattle.larch_traits.specs.TraitsItemsLaws as TraitsItemsLaws
pub use Rattle.larch_traits.specs.Reading as TraitsReading
