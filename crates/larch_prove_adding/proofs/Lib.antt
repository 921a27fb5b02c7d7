pub mod Consequences
pub mod Deductions
pub mod FactLists
pub mod Naming
pub mod Numbers
pub mod Serving
pub mod Staying
pub mod Turning
pub mod Values
pub mod Views
-- passed on to crates above, which then needn't list the crates that these are of
pub use Rattle.larch_prove_invariant.proofs.BlockConstants as ProveInvariantBlockConstants
pub use Rattle.larch_prove_invariant.proofs.Boxes as ProveInvariantBoxes
pub use Rattle.larch_prove_invariant.proofs.Held as ProveInvariantHeld
pub use Rattle.larch_prove_invariant.proofs.LevelConstants as ProveInvariantLevelConstants
pub use Rattle.larch_rewrite.proofs.RewriteLawTurns as RewriteLawTurns
