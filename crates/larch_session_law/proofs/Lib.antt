-- Lemmas.
pub mod Begun
pub mod Claimed
pub mod Justified
pub mod Lemmas
-- passed on to crates above, which then needn't list the crates that these are of
pub use Rattle.larch_session_meaning.proofs.DutiesCounts as DutiesCounts
pub use Rattle.larch_session_meaning.proofs.FlatSourcesTables as FlatSourcesTables
pub use Rattle.larch_session_meaning.proofs.ScriptWords as ScriptWords
pub use Rattle.larch_session_meaning.proofs.TraitsItemsKept as TraitsItemsKept
pub use Rattle.larch_verify_law.proofs.Accepted as VerifyLawAccepted
pub use Rattle.larch_verify_law.proofs.Verdicts as VerifyLawVerdicts
