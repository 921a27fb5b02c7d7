pub mod Carrying
pub mod Replayed
-- passed on to crates above, which then needn't list the crates that these are of
pub use Rattle.larch_session_blocks.specs.DutiesMeaningClaims as DutiesMeaningClaims
pub use Rattle.larch_session_blocks.specs.DutiesTraitDuties as DutiesTraitDuties
pub use Rattle.larch_session_blocks.specs.FlatKnown as FlatKnown
pub use Rattle.larch_session_blocks.specs.FlatMeaningStops as FlatMeaningStops
pub use Rattle.larch_session_blocks.specs.FlatSourcesSources as FlatSourcesSources
pub use Rattle.larch_prove.specs.ProveInvariantHolding as ProveInvariantHolding
pub use Rattle.larch_prove.specs.State as ProveState
pub use Rattle.larch_session_sources.specs.SessionLawCertified as SessionLawCertified
pub use Rattle.larch_session_sources.specs.SessionLawClaims as SessionLawClaims
pub use Rattle.larch_session_blocks.specs.SessionMeaningFiles as SessionMeaningFiles
pub use Rattle.larch_session_blocks.specs.SessionMeaningRedone as SessionMeaningRedone
pub use Rattle.larch_session_blocks.specs.SessionMeaningTraits as SessionMeaningTraits
pub use Rattle.larch_session_sources.specs.Justified as SessionSourcesJustified
pub use Rattle.larch_session_sources.specs.Looked as SessionSourcesLooked
pub use Rattle.larch_session_sources.specs.Steps as SessionSourcesSteps
pub use Rattle.larch_session_blocks.specs.TraitsFiles as TraitsFiles
pub use Rattle.larch_session_blocks.specs.TraitsReading as TraitsReading
