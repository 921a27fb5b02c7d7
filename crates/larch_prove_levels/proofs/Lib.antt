pub mod Hypotheses
pub mod Opening
pub mod Rises
pub mod Settling
pub mod Telling
-- passed on to crates above, which then needn't list the crates that these are of
pub use Rattle.larch_prove_boxes.proofs.DeriveGrowth as DeriveGrowth
pub use Rattle.larch_prove_adding.proofs.FactLists as ProveAddingFactLists
pub use Rattle.larch_prove_adding.proofs.Staying as ProveAddingStaying
pub use Rattle.larch_prove_adding.proofs.Turning as ProveAddingTurning
pub use Rattle.larch_prove_adding.proofs.Views as ProveAddingViews
pub use Rattle.larch_prove_boxes.proofs.Ends as ProveBoxesEnds
pub use Rattle.larch_prove_boxes.proofs.Extras as ProveBoxesExtras
pub use Rattle.larch_prove_boxes.proofs.ProveInvariantBlockConstants as ProveInvariantBlockConstants
pub use Rattle.larch_prove_boxes.proofs.ProveInvariantBoxes as ProveInvariantBoxes
pub use Rattle.larch_prove_boxes.proofs.ProveInvariantHeld as ProveInvariantHeld
pub use Rattle.larch_prove_boxes.proofs.ProveInvariantInstances as ProveInvariantInstances
pub use Rattle.larch_prove_boxes.proofs.ProveInvariantLeft as ProveInvariantLeft
pub use Rattle.larch_prove_boxes.proofs.ProveInvariantLevelConstants as ProveInvariantLevelConstants
pub use Rattle.larch_prove_boxes.proofs.ProveInvariantOwn as ProveInvariantOwn
pub use Rattle.larch_prove_boxes.proofs.ProveInvariantPlanWords as ProveInvariantPlanWords
pub use Rattle.larch_prove_boxes.proofs.ProveInvariantPlanned as ProveInvariantPlanned
pub use Rattle.larch_prove_boxes.proofs.ProveInvariantReadWords as ProveInvariantReadWords
pub use Rattle.larch_prove_adding.proofs.RewriteLawTurns as RewriteLawTurns
pub use Rattle.larch_prove_boxes.proofs.TraitsItemsKept as TraitsItemsKept
