-- Lemmas.
pub mod Among
pub mod Named
pub mod Redone
pub mod Told
-- passed on to crates above, which then needn't list the crates that these are of
pub use Rattle.larch_session_law.proofs.Begun as SessionLawBegun
pub use Rattle.larch_session_law.proofs.Claimed as SessionLawClaimed
pub use Rattle.larch_session_law.proofs.Justified as SessionLawJustified
pub use Rattle.larch_session_law.proofs.Lemmas as SessionLawLemmas
