pub mod Replayed
-- passed on to crates above, which then needn't list the crates that these are of
pub use Rattle.larch_prove_meaning.specs.Redo as ProveMeaningRedo
pub use Rattle.larch_session_replay.specs.SessionMeaningFiles as SessionMeaningFiles
pub use Rattle.larch_session_replay.specs.SessionMeaningRedone as SessionMeaningRedone
pub use Rattle.larch_session_replay.specs.SessionSourcesJustified as SessionSourcesJustified
pub use Rattle.larch_session_replay.specs.TraitsFiles as TraitsFiles
