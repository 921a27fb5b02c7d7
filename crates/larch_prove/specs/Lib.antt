pub mod Begun
pub mod Kinds
pub mod Prepared
pub mod State
-- passed on to crates above, which then needn't list the crates that these are of
pub use Rattle.larch_derive.specs.Builder as DeriveBuilder
pub use Rattle.larch_derive.specs.Finished as DeriveFinished
pub use Rattle.larch_prove_resuming.specs.ProveInvariantHolding as ProveInvariantHolding
pub use Rattle.larch_prove_beginning.specs.ProveOpeningStating as ProveOpeningStating
