pub mod Begun
pub mod Connectives
pub mod Inductions
pub mod Joining
pub mod Leaving
pub mod Left
pub mod Lengths
pub mod Numbered
pub mod Observing
pub mod Opened
pub mod Places
pub mod Planned
pub mod Settled
pub mod Sharing
pub mod Shown
pub mod Undoing
pub mod Worded
pub mod Words
-- passed on to crates above, which then needn't list the crates that these are of
pub use Rattle.larch_derive_clauses.proofs.DeriveBoxesClosing as DeriveBoxesClosing
pub use Rattle.larch_derive_clauses.proofs.DeriveBoxesInside as DeriveBoxesInside
pub use Rattle.larch_derive_clauses.proofs.DeriveBoxesKnowing as DeriveBoxesKnowing
pub use Rattle.larch_derive_clauses.proofs.DeriveBoxesOpening as DeriveBoxesOpening
pub use Rattle.larch_derive_clauses.proofs.DeriveBoxesSupposing as DeriveBoxesSupposing
pub use Rattle.larch_derive_clauses.proofs.DeriveBoxesWords as DeriveBoxesWords
pub use Rattle.larch_prove_plans.proofs.PairsCriticalNumbering as PairsCriticalNumbering
pub use Rattle.larch_prove_plans.proofs.PairsCriticalOverOperators as PairsCriticalOverOperators
pub use Rattle.larch_prove_plans.proofs.PairsCriticalReplacements as PairsCriticalReplacements
pub use Rattle.larch_prove_plans.proofs.PairsCriticalSorting as PairsCriticalSorting
pub use Rattle.larch_prove_plans.proofs.ProveMeaningCasePlans as ProveMeaningCasePlans
pub use Rattle.larch_prove_plans.proofs.ProveMeaningNewConstants as ProveMeaningNewConstants
pub use Rattle.larch_prove_plans.proofs.ProveMeaningNormalSides as ProveMeaningNormalSides
pub use Rattle.larch_prove_plans.proofs.ProveMeaningPartitionPlans as ProveMeaningPartitionPlans
pub use Rattle.larch_prove_plans.proofs.ProveMeaningPlanParts as ProveMeaningPlanParts
pub use Rattle.larch_prove_plans.proofs.ProveMeaningPlanSorts as ProveMeaningPlanSorts
pub use Rattle.larch_prove_plans.proofs.ProveMeaningReadWords as ProveMeaningReadWords
pub use Rattle.larch_prove_plans.proofs.ProveMeaningTaking as ProveMeaningTaking
pub use Rattle.larch_prove_plans.proofs.RewriteMeaningMatches as RewriteMeaningMatches
pub use Rattle.larch_prove_plans.proofs.ScriptCommandsDecided as ScriptCommandsDecided
