pub mod ByFacts
pub mod Nothing
pub mod Stating
pub mod Steps
-- passed on to crates above, which then needn't list the crates that these are of
pub use Rattle.larch_prove_adding.proofs.FactLists as ProveAddingFactLists
pub use Rattle.larch_prove_adding.proofs.Staying as ProveAddingStaying
pub use Rattle.larch_prove_adding.proofs.Views as ProveAddingViews
pub use Rattle.larch_prove_adding.proofs.ProveInvariantBlockConstants as ProveInvariantBlockConstants
pub use Rattle.larch_prove_adding.proofs.ProveInvariantBoxes as ProveInvariantBoxes
pub use Rattle.larch_prove_adding.proofs.ProveInvariantHeld as ProveInvariantHeld
pub use Rattle.larch_prove_adding.proofs.ProveInvariantLevelConstants as ProveInvariantLevelConstants
