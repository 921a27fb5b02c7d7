pub mod Certified
pub mod Claims
-- passed on to crates above, which then needn't list the crates that these are of
pub use Rattle.larch_session_meaning.specs.DutiesMeaningClaims as DutiesMeaningClaims
pub use Rattle.larch_session_meaning.specs.DutiesTraitDuties as DutiesTraitDuties
pub use Rattle.larch_session_meaning.specs.FlatKnown as FlatKnown
pub use Rattle.larch_session_meaning.specs.FlatMeaningStops as FlatMeaningStops
pub use Rattle.larch_session_meaning.specs.FlatParts as FlatParts
pub use Rattle.larch_session_meaning.specs.FlatSourcesSources as FlatSourcesSources
pub use Rattle.larch_prove_meaning.specs.Redo as ProveMeaningRedo
pub use Rattle.larch_prove_meaning.specs.Reports as ProveMeaningReports
pub use Rattle.larch_prove_meaning.specs.Scripts as ProveMeaningScripts
pub use Rattle.larch_session_meaning.specs.ScriptScripts as ScriptScripts
pub use Rattle.larch_session_meaning.specs.Files as SessionMeaningFiles
pub use Rattle.larch_session_meaning.specs.Redone as SessionMeaningRedone
pub use Rattle.larch_session_meaning.specs.Traits as SessionMeaningTraits
pub use Rattle.larch_session_meaning.specs.TraitsFiles as TraitsFiles
pub use Rattle.larch_session_meaning.specs.TraitsReading as TraitsReading
