pub mod FreeNames
pub mod Blocks
pub mod Positions
pub mod Redone
pub mod Scopes
pub mod AddingSorts
pub mod Applications
pub mod NormalSides
pub mod Taking
pub mod LevelSorts
pub mod NewConstants
pub mod StepSorts
pub mod OpeningSorts
pub mod CasePlans
pub mod InductionPlans
pub mod PartitionPlans
pub mod PlanParts
pub mod PlanSorts
pub mod AddingNames
pub mod LemmaNumbers
pub mod LevelNames
pub mod StepNames
pub mod OpeningNames
pub mod LevelScopes
pub mod StepScopes
pub mod ReadWords
-- passed on to crates above, which then needn't list the crates that these are of
pub use Rattle.larch_pairs_critical.proofs.Numbering as PairsCriticalNumbering
pub use Rattle.larch_pairs_critical.proofs.OverOperators as PairsCriticalOverOperators
pub use Rattle.larch_pairs_critical.proofs.Replacements as PairsCriticalReplacements
pub use Rattle.larch_pairs_critical.proofs.Sorting as PairsCriticalSorting
pub use Rattle.larch_rewrite_meaning.proofs.Matches as RewriteMeaningMatches
pub use Rattle.larch_script_commands.proofs.Decided as ScriptCommandsDecided
