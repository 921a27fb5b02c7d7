pub mod Alike
pub mod Copies
pub mod Standing
-- passed on to crates above, which then needn't list the crates that these are of
pub use Rattle.larch_prove_levels.proofs.ProveAddingFactLists as ProveAddingFactLists
pub use Rattle.larch_prove_levels.proofs.ProveAddingStaying as ProveAddingStaying
pub use Rattle.larch_prove_levels.proofs.ProveAddingTurning as ProveAddingTurning
pub use Rattle.larch_prove_levels.proofs.ProveAddingViews as ProveAddingViews
pub use Rattle.larch_prove_levels.proofs.ProveBoxesEnds as ProveBoxesEnds
pub use Rattle.larch_prove_levels.proofs.ProveBoxesExtras as ProveBoxesExtras
pub use Rattle.larch_prove_levels.proofs.ProveInvariantBlockConstants as ProveInvariantBlockConstants
pub use Rattle.larch_prove_levels.proofs.ProveInvariantBoxes as ProveInvariantBoxes
pub use Rattle.larch_prove_levels.proofs.ProveInvariantHeld as ProveInvariantHeld
pub use Rattle.larch_prove_levels.proofs.ProveInvariantInstances as ProveInvariantInstances
pub use Rattle.larch_prove_levels.proofs.ProveInvariantLeft as ProveInvariantLeft
pub use Rattle.larch_prove_levels.proofs.ProveInvariantLevelConstants as ProveInvariantLevelConstants
pub use Rattle.larch_prove_levels.proofs.ProveInvariantOwn as ProveInvariantOwn
pub use Rattle.larch_prove_levels.proofs.ProveInvariantPlanWords as ProveInvariantPlanWords
pub use Rattle.larch_prove_levels.proofs.ProveInvariantPlanned as ProveInvariantPlanned
pub use Rattle.larch_prove_levels.proofs.ProveInvariantReadWords as ProveInvariantReadWords
pub use Rattle.larch_prove_levels.proofs.Hypotheses as ProveLevelsHypotheses
pub use Rattle.larch_prove_levels.proofs.Opening as ProveLevelsOpening
pub use Rattle.larch_prove_levels.proofs.Rises as ProveLevelsRises
pub use Rattle.larch_prove_levels.proofs.Telling as ProveLevelsTelling
pub use Rattle.larch_prove_levels.proofs.RewriteLawTurns as RewriteLawTurns
pub use Rattle.larch_prove_levels.proofs.TraitsItemsKept as TraitsItemsKept
