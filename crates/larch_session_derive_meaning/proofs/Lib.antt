pub mod Called
pub mod Finding
pub mod Labels
pub mod Made
pub mod Order
pub mod Shown
-- passed on to crates above, which then needn't list the crates that these are of
pub use Rattle.larch_session_law.proofs.FlatSourcesTables as FlatSourcesTables
pub use Rattle.larch_session_law.proofs.Begun as SessionLawBegun
pub use Rattle.larch_session_law.proofs.Claimed as SessionLawClaimed
pub use Rattle.larch_session_law.proofs.Lemmas as SessionLawLemmas
