pub mod Facts
pub mod Taking
pub mod NewNames
pub mod Plans
pub mod Levels
pub mod Steps
pub mod Replays
pub mod Scripts
pub mod Reports
pub mod Redo
pub mod WellSorted
pub mod Computing
pub mod Named
pub mod InWords
-- passed on to crates above, which then needn't list the crates that these are of
pub use Rattle.larch_base_meaning.specs.Word as BaseMeaningWord
pub use Rattle.larch_order.specs.declared.precedence.Ranked as OrderPrecedenceRanked
pub use Rattle.larch_pairs_critical.specs.Overlap as PairsCriticalOverlap
pub use Rattle.larch_pairs_critical.specs.declared.pair.Pair as PairsCriticalPairPair
pub use Rattle.larch_pairs_critical.specs.declared.pair.Rule as PairsCriticalPairRule
pub use Rattle.larch_pairs_critical.specs.Pairs as PairsCriticalPairs
pub use Rattle.larch_pairs_critical.specs.Variables as PairsCriticalVariables
pub use Rattle.larch_pairs_critical.specs.PairsUnify as PairsUnify
pub use Rattle.larch_raw.specs.declared.equation.RawEquation as RawEquationRawEquation
pub use Rattle.larch_rewrite_meaning.specs.Matching as RewriteMeaningMatching
pub use Rattle.larch_rewrite_meaning.specs.NormalForm as RewriteMeaningNormalForm
pub use Rattle.larch_rewrite_meaning.specs.Sides as RewriteMeaningSides
pub use Rattle.larch_sorts_meaning.specs.Laws as SortsMeaningLaws
