pub mod BoxLists
pub mod Ends
pub mod Entering
pub mod Extras
pub mod Finishing
pub mod Leave
pub mod Lowest
pub mod Saying
-- passed on to crates above, which then needn't list the crates that these are of
pub use Rattle.larch_calculus.specs.Formula as CalculusFormula
pub use Rattle.larch_calculus.specs.Theories as CalculusTheories
pub use Rattle.larch_derive.specs.Builder as DeriveBuilder
pub use Rattle.larch_derive.specs.declared.builder.Builder as DeriveBuilderBuilder
pub use Rattle.larch_derive.specs.Finished as DeriveFinished
pub use Rattle.larch_prove_invariant.specs.DeriveLinesWay as DeriveLinesWay
pub use Rattle.larch_derive.specs.Predicates as DerivePredicates
pub use Rattle.larch_prove_invariant.specs.OrderPrecedenceRanked as OrderPrecedenceRanked
pub use Rattle.larch_prove_invariant.specs.Book as ProveInvariantBook
pub use Rattle.larch_prove_invariant.specs.Ending as ProveInvariantEnding
pub use Rattle.larch_prove_invariant.specs.Holding as ProveInvariantHolding
pub use Rattle.larch_prove_invariant.specs.Leaving as ProveInvariantLeaving
pub use Rattle.larch_prove_invariant.specs.Setting as ProveInvariantSetting
pub use Rattle.larch_prove_invariant.specs.ProveMeaningFacts as ProveMeaningFacts
pub use Rattle.larch_prove_invariant.specs.ProveMeaningLevels as ProveMeaningLevels
pub use Rattle.larch_prove_invariant.specs.ProveMeaningPlans as ProveMeaningPlans
pub use Rattle.larch_prove_invariant.specs.ProvePlansPlanning as ProvePlansPlanning
pub use Rattle.larch_prove_invariant.specs.ProvePlansSubgoalsMethod as ProvePlansSubgoalsMethod
pub use Rattle.larch_prove_invariant.specs.ProvePlansSubgoalsSubgoal as ProvePlansSubgoalsSubgoal
pub use Rattle.larch_traits_items.specs.Laws as TraitsItemsLaws
