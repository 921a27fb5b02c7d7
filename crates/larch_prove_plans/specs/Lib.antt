pub mod Planning
pub mod Shapes
pub mod Observations
pub mod ClauseGoals
-- passed on to crates above, which then needn't list the crates that these are of
pub use Rattle.larch_prove_meaning.specs.BaseMeaningWord as BaseMeaningWord
pub use Rattle.larch_prove_meaning.specs.OrderPrecedenceRanked as OrderPrecedenceRanked
pub use Rattle.larch_prove_meaning.specs.PairsCriticalOverlap as PairsCriticalOverlap
pub use Rattle.larch_prove_meaning.specs.PairsCriticalPairPair as PairsCriticalPairPair
pub use Rattle.larch_prove_meaning.specs.PairsCriticalPairRule as PairsCriticalPairRule
pub use Rattle.larch_prove_meaning.specs.PairsCriticalPairs as PairsCriticalPairs
pub use Rattle.larch_prove_meaning.specs.PairsCriticalVariables as PairsCriticalVariables
pub use Rattle.larch_prove_meaning.specs.PairsUnify as PairsUnify
pub use Rattle.larch_prove_meaning.specs.Facts as ProveMeaningFacts
pub use Rattle.larch_prove_meaning.specs.InWords as ProveMeaningInWords
pub use Rattle.larch_prove_meaning.specs.Levels as ProveMeaningLevels
pub use Rattle.larch_prove_meaning.specs.NewNames as ProveMeaningNewNames
pub use Rattle.larch_prove_meaning.specs.Plans as ProveMeaningPlans
pub use Rattle.larch_prove_meaning.specs.Replays as ProveMeaningReplays
pub use Rattle.larch_prove_meaning.specs.Steps as ProveMeaningSteps
pub use Rattle.larch_prove_meaning.specs.Taking as ProveMeaningTaking
pub use Rattle.larch_prove_meaning.specs.WellSorted as ProveMeaningWellSorted
pub use Rattle.larch_prove_meaning.specs.RawEquationRawEquation as RawEquationRawEquation
pub use Rattle.larch_prove_meaning.specs.RewriteMeaningMatching as RewriteMeaningMatching
pub use Rattle.larch_prove_meaning.specs.RewriteMeaningSides as RewriteMeaningSides
pub use Rattle.larch_prove_meaning.specs.SortsMeaningLaws as SortsMeaningLaws
