pub mod Called
pub mod Derived
pub mod Ordered
pub mod Verified
-- passed on to crates above, which then needn't list the crates that these are of
pub use Rattle.larch_duties_meaning.specs.Claims as DutiesMeaningClaims
pub use Rattle.larch_session_law.specs.DutiesTraitDuties as DutiesTraitDuties
pub use Rattle.larch_session_law.specs.FlatKnown as FlatKnown
pub use Rattle.larch_flat_meaning.specs.Files as FlatMeaningFiles
pub use Rattle.larch_flat_meaning.specs.Stops as FlatMeaningStops
pub use Rattle.larch_session_law.specs.FlatSourcesSources as FlatSourcesSources
pub use Rattle.larch_session_law.specs.Certified as SessionLawCertified
pub use Rattle.larch_session_law.specs.Claims as SessionLawClaims
pub use Rattle.larch_session_law.specs.SessionMeaningFiles as SessionMeaningFiles
pub use Rattle.larch_session_law.specs.SessionMeaningRedone as SessionMeaningRedone
pub use Rattle.larch_session_law.specs.SessionMeaningTraits as SessionMeaningTraits
pub use Rattle.larch_session_law.specs.TraitsFiles as TraitsFiles
pub use Rattle.larch_session_law.specs.TraitsReading as TraitsReading
