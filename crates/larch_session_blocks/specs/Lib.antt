-- passed on to crates above, which then needn't list the crates that these are of
pub use Rattle.larch_session_meaning.specs.DutiesMeaningClaims as DutiesMeaningClaims
pub use Rattle.larch_session_meaning.specs.DutiesTraitDuties as DutiesTraitDuties
pub use Rattle.larch_session_meaning.specs.FlatKnown as FlatKnown
pub use Rattle.larch_session_meaning.specs.FlatMeaningStops as FlatMeaningStops
pub use Rattle.larch_session_meaning.specs.FlatSourcesSources as FlatSourcesSources
pub use Rattle.larch_session_meaning.specs.Files as SessionMeaningFiles
pub use Rattle.larch_session_meaning.specs.Redone as SessionMeaningRedone
pub use Rattle.larch_session_meaning.specs.Traits as SessionMeaningTraits
pub use Rattle.larch_session_meaning.specs.TraitsFiles as TraitsFiles
pub use Rattle.larch_session_meaning.specs.TraitsItemsLaws as TraitsItemsLaws
pub use Rattle.larch_session_meaning.specs.TraitsReading as TraitsReading
