pub mod EntersUpon
pub mod Following
pub mod Hypotheses
pub mod Leading
pub mod Leaving
pub mod Measures
pub mod MethodEnds
pub mod Next
pub mod Noting
pub mod Popping
pub mod Proved
-- passed on to crates above, which then needn't list the crates that these are of
pub use Rattle.larch_prove_draft.proofs.ProveAddingStaying as ProveAddingStaying
pub use Rattle.larch_prove_draft.proofs.ProveAddingTurning as ProveAddingTurning
pub use Rattle.larch_prove_draft.proofs.ProveAddingViews as ProveAddingViews
pub use Rattle.larch_prove_draft.proofs.ProveBoxesExtras as ProveBoxesExtras
pub use Rattle.larch_prove_draft.proofs.Alike as ProveDraftAlike
pub use Rattle.larch_prove_draft.proofs.Standing as ProveDraftStanding
pub use Rattle.larch_prove_draft.proofs.ProveInvariantBlockConstants as ProveInvariantBlockConstants
pub use Rattle.larch_prove_draft.proofs.ProveInvariantBoxes as ProveInvariantBoxes
pub use Rattle.larch_prove_draft.proofs.ProveInvariantHeld as ProveInvariantHeld
pub use Rattle.larch_prove_draft.proofs.ProveInvariantInstances as ProveInvariantInstances
pub use Rattle.larch_prove_draft.proofs.ProveInvariantLevelConstants as ProveInvariantLevelConstants
pub use Rattle.larch_prove_draft.proofs.ProveInvariantOwn as ProveInvariantOwn
pub use Rattle.larch_prove_draft.proofs.ProveInvariantPlanWords as ProveInvariantPlanWords
pub use Rattle.larch_prove_draft.proofs.ProveInvariantPlanned as ProveInvariantPlanned
pub use Rattle.larch_prove_draft.proofs.ProveInvariantReadWords as ProveInvariantReadWords
pub use Rattle.larch_prove_draft.proofs.ProveLevelsHypotheses as ProveLevelsHypotheses
pub use Rattle.larch_prove_draft.proofs.ProveLevelsOpening as ProveLevelsOpening
pub use Rattle.larch_prove_draft.proofs.ProveLevelsRises as ProveLevelsRises
pub use Rattle.larch_prove_draft.proofs.ProveLevelsTelling as ProveLevelsTelling
pub use Rattle.larch_prove_draft.proofs.RewriteLawTurns as RewriteLawTurns
pub use Rattle.larch_prove_draft.proofs.TraitsItemsKept as TraitsItemsKept
