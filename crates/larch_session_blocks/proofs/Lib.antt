-- Lemmas.
pub mod Found
pub mod Seen
-- passed on to crates above, which then needn't list the crates that these are of
pub use Rattle.larch_session_meaning.proofs.TraitsItemsKept as TraitsItemsKept
