pub mod Beside
pub mod Deductions
pub mod Equation
pub mod KeptFacts
pub mod KeptFactsCode
pub mod Turns
-- passed on to crates above, which then needn't list the crates that these are of
pub use Rattle.larch_prove_invariant.specs.Book as ProveInvariantBook
pub use Rattle.larch_prove_invariant.specs.Holding as ProveInvariantHolding
pub use Rattle.larch_prove_invariant.specs.ProveMeaningFacts as ProveMeaningFacts
pub use Rattle.larch_prove_invariant.specs.ProveMeaningLevels as ProveMeaningLevels
pub use Rattle.larch_prove_invariant.specs.ProveMeaningReplays as ProveMeaningReplays
pub use Rattle.larch_prove_invariant.specs.ProveMeaningWellSorted as ProveMeaningWellSorted
pub use Rattle.larch_prove_invariant.specs.ProvePlansClauseGoals as ProvePlansClauseGoals
pub use Rattle.larch_prove_invariant.specs.ProvePlansPlanning as ProvePlansPlanning
pub use Rattle.larch_prove_invariant.specs.ProvePlansSubgoalsSubgoal as ProvePlansSubgoalsSubgoal
pub use Rattle.larch_rewrite.specs.Kept as RewriteKept
pub use Rattle.larch_rewrite.specs.declared.kept.KeptForm as RewriteKeptKeptForm
pub use Rattle.larch_rewrite_meaning.specs.NormalForm as RewriteMeaningNormalForm
pub use Rattle.larch_rewrite_meaning.specs.Sides as RewriteMeaningSides
pub use Rattle.larch_rewrite_meaning.specs.Work as RewriteMeaningWork
pub use Rattle.larch_rewrite.specs.declared.refusal.RewriteRefusal as RewriteRefusalRewriteRefusal
pub use Rattle.larch_rewrite.specs.RuleSet as RewriteRuleSet
