pub mod Carried
pub mod Constants
pub mod Readings
pub mod Still
pub mod Upon
pub mod Writing
-- passed on to crates above, which then needn't list the crates that these are of
pub use Rattle.larch_derive.proofs.Growth as DeriveGrowth
pub use Rattle.larch_prove_settling.proofs.ProveAddingStaying as ProveAddingStaying
pub use Rattle.larch_prove_settling.proofs.ProveAddingTurning as ProveAddingTurning
pub use Rattle.larch_prove_settling.proofs.ProveAddingViews as ProveAddingViews
pub use Rattle.larch_prove_settling.proofs.ProveDraftAlike as ProveDraftAlike
pub use Rattle.larch_prove_settling.proofs.ProveDraftStanding as ProveDraftStanding
pub use Rattle.larch_prove_settling.proofs.ProveInvariantBlockConstants as ProveInvariantBlockConstants
pub use Rattle.larch_prove_settling.proofs.ProveInvariantHeld as ProveInvariantHeld
pub use Rattle.larch_prove_settling.proofs.ProveInvariantInstances as ProveInvariantInstances
pub use Rattle.larch_prove_settling.proofs.ProveInvariantLevelConstants as ProveInvariantLevelConstants
pub use Rattle.larch_prove_settling.proofs.ProveInvariantOwn as ProveInvariantOwn
pub use Rattle.larch_prove_settling.proofs.ProveInvariantPlanned as ProveInvariantPlanned
pub use Rattle.larch_prove_settling.proofs.ProveInvariantReadWords as ProveInvariantReadWords
pub use Rattle.larch_prove_settling.proofs.ProveLevelsHypotheses as ProveLevelsHypotheses
pub use Rattle.larch_prove_settling.proofs.ProveLevelsRises as ProveLevelsRises
pub use Rattle.larch_prove_settling.proofs.ProveLevelsTelling as ProveLevelsTelling
pub use Rattle.larch_prove_settling.proofs.EntersUpon as ProveSettlingEntersUpon
pub use Rattle.larch_prove_settling.proofs.Leaving as ProveSettlingLeaving
pub use Rattle.larch_prove_settling.proofs.Noting as ProveSettlingNoting
pub use Rattle.larch_prove_settling.proofs.Proved as ProveSettlingProved
pub use Rattle.larch_prove_settling.proofs.RewriteLawTurns as RewriteLawTurns
pub use Rattle.larch_prove_settling.proofs.TraitsItemsKept as TraitsItemsKept
