pub mod Clauses
pub mod Conjuncts
pub mod Inside
pub mod Methods
pub mod Observers
pub mod Opening
pub mod Rows
-- passed on to crates above, which then needn't list the crates that these are of
pub use Rattle.larch_prove_plans.specs.BaseMeaningWord as BaseMeaningWord
pub use Rattle.larch_certificate.specs.declared.line.Line as CertificateLineLine
pub use Rattle.larch_derive_clauses.specs.DeriveBoxesBoxes as DeriveBoxesBoxes
pub use Rattle.larch_prove_plans.specs.OrderPrecedenceRanked as OrderPrecedenceRanked
pub use Rattle.larch_prove_plans.specs.PairsCriticalOverlap as PairsCriticalOverlap
pub use Rattle.larch_prove_plans.specs.PairsCriticalPairPair as PairsCriticalPairPair
pub use Rattle.larch_prove_plans.specs.PairsCriticalPairRule as PairsCriticalPairRule
pub use Rattle.larch_prove_plans.specs.PairsCriticalPairs as PairsCriticalPairs
pub use Rattle.larch_prove_plans.specs.PairsCriticalVariables as PairsCriticalVariables
pub use Rattle.larch_prove_plans.specs.PairsUnify as PairsUnify
pub use Rattle.larch_prove_plans.specs.ProveMeaningFacts as ProveMeaningFacts
pub use Rattle.larch_prove_plans.specs.ProveMeaningInWords as ProveMeaningInWords
pub use Rattle.larch_prove_plans.specs.ProveMeaningLevels as ProveMeaningLevels
pub use Rattle.larch_prove_plans.specs.ProveMeaningNewNames as ProveMeaningNewNames
pub use Rattle.larch_prove_plans.specs.ProveMeaningPlans as ProveMeaningPlans
pub use Rattle.larch_prove_plans.specs.ProveMeaningReplays as ProveMeaningReplays
pub use Rattle.larch_prove_plans.specs.ProveMeaningSteps as ProveMeaningSteps
pub use Rattle.larch_prove_plans.specs.ProveMeaningTaking as ProveMeaningTaking
pub use Rattle.larch_prove_plans.specs.ProveMeaningWellSorted as ProveMeaningWellSorted
pub use Rattle.larch_prove_plans.specs.ClauseGoals as ProvePlansClauseGoals
pub use Rattle.larch_prove_plans.specs.Planning as ProvePlansPlanning
pub use Rattle.larch_prove_plans.specs.Shapes as ProvePlansShapes
pub use Rattle.larch_prove_plans.specs.declared.subgoals.Method as ProvePlansSubgoalsMethod
pub use Rattle.larch_prove_plans.specs.declared.subgoals.Subgoal as ProvePlansSubgoalsSubgoal
pub use Rattle.larch_prove_plans.specs.RawEquationRawEquation as RawEquationRawEquation
pub use Rattle.larch_prove_plans.specs.RewriteMeaningMatching as RewriteMeaningMatching
pub use Rattle.larch_prove_plans.specs.RewriteMeaningSides as RewriteMeaningSides
pub use Rattle.larch_prove_plans.specs.SortsMeaningLaws as SortsMeaningLaws
