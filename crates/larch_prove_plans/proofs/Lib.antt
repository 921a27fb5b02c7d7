pub mod Closed
pub mod Constants
pub mod Defined
pub mod Generating
pub mod Pairs
pub mod Planned
pub mod Steps
-- passed on to crates above, which then needn't list the crates that these are of
pub use Rattle.larch_prove_meaning.proofs.PairsCriticalNumbering as PairsCriticalNumbering
pub use Rattle.larch_prove_meaning.proofs.PairsCriticalOverOperators as PairsCriticalOverOperators
pub use Rattle.larch_prove_meaning.proofs.PairsCriticalReplacements as PairsCriticalReplacements
pub use Rattle.larch_prove_meaning.proofs.PairsCriticalSorting as PairsCriticalSorting
pub use Rattle.larch_prove_meaning.proofs.CasePlans as ProveMeaningCasePlans
pub use Rattle.larch_prove_meaning.proofs.LevelSorts as ProveMeaningLevelSorts
pub use Rattle.larch_prove_meaning.proofs.NewConstants as ProveMeaningNewConstants
pub use Rattle.larch_prove_meaning.proofs.NormalSides as ProveMeaningNormalSides
pub use Rattle.larch_prove_meaning.proofs.PartitionPlans as ProveMeaningPartitionPlans
pub use Rattle.larch_prove_meaning.proofs.PlanParts as ProveMeaningPlanParts
pub use Rattle.larch_prove_meaning.proofs.PlanSorts as ProveMeaningPlanSorts
pub use Rattle.larch_prove_meaning.proofs.ReadWords as ProveMeaningReadWords
pub use Rattle.larch_prove_meaning.proofs.Taking as ProveMeaningTaking
pub use Rattle.larch_prove_meaning.proofs.RewriteMeaningMatches as RewriteMeaningMatches
pub use Rattle.larch_prove_meaning.proofs.ScriptCommandsDecided as ScriptCommandsDecided
