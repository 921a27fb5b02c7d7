pub mod Begins
pub mod ByCases
pub mod ByKind
pub mod Made
pub mod Plans
pub mod Reaching
-- passed on to crates above, which then needn't list the crates that these are of
pub use Rattle.larch_prove_work.proofs.ProveDraftAlike as ProveDraftAlike
pub use Rattle.larch_prove_work.proofs.ProveInvariantReadWords as ProveInvariantReadWords
pub use Rattle.larch_prove_work.proofs.TraitsItemsKept as TraitsItemsKept
