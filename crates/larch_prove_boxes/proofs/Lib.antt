pub mod Begun
pub mod Closes
pub mod Closing
pub mod Ended
pub mod Ends
pub mod Entrances
pub mod Equalities
pub mod Extras
pub mod Handed
pub mod Hypotheses
pub mod Results
pub mod Shared
pub mod Stated
pub mod ToOpen
pub mod Wants
-- passed on to crates above, which then needn't list the crates that these are of
pub use Rattle.larch_derive.proofs.Growth as DeriveGrowth
pub use Rattle.larch_prove_invariant.proofs.BlockConstants as ProveInvariantBlockConstants
pub use Rattle.larch_prove_invariant.proofs.Boxes as ProveInvariantBoxes
pub use Rattle.larch_prove_invariant.proofs.Held as ProveInvariantHeld
pub use Rattle.larch_prove_invariant.proofs.Instances as ProveInvariantInstances
pub use Rattle.larch_prove_invariant.proofs.Left as ProveInvariantLeft
pub use Rattle.larch_prove_invariant.proofs.LevelConstants as ProveInvariantLevelConstants
pub use Rattle.larch_prove_invariant.proofs.Own as ProveInvariantOwn
pub use Rattle.larch_prove_invariant.proofs.PlanWords as ProveInvariantPlanWords
pub use Rattle.larch_prove_invariant.proofs.Planned as ProveInvariantPlanned
pub use Rattle.larch_prove_invariant.proofs.ReadWords as ProveInvariantReadWords
pub use Rattle.larch_traits_items.proofs.Kept as TraitsItemsKept
