-- Lemmas.
pub mod Carried
pub mod Certified
pub mod Following
pub mod Gathered
pub mod Stated
pub mod Told
-- passed on to crates above, which then needn't list the crates that these are of
pub use Rattle.larch_session_sources.proofs.SessionLawClaimed as SessionLawClaimed
pub use Rattle.larch_session_sources.proofs.SessionLawJustified as SessionLawJustified
pub use Rattle.larch_session_sources.proofs.Among as SessionSourcesAmong
pub use Rattle.larch_session_sources.proofs.Redone as SessionSourcesRedone
pub use Rattle.larch_session_sources.proofs.Told as SessionSourcesTold
