pub mod Session
-- passed on to crates above, which then needn't list the crates that these are of
pub use Rattle.larch_session_kept.specs.Kept as SessionKeptKept
pub use Rattle.larch_session_report.specs.SessionMeaningFiles as SessionMeaningFiles
pub use Rattle.larch_session_report.specs.SessionMeaningRedone as SessionMeaningRedone
pub use Rattle.larch_session_report.specs.SessionSourcesJustified as SessionSourcesJustified
