pub mod Book
pub mod Ending
pub mod Holding
pub mod InWords
pub mod Leaving
pub mod Setting
pub mod Unopened
-- passed on to crates above, which then needn't list the crates that these are of
pub use Rattle.larch_calculus.specs.Formula as CalculusFormula
pub use Rattle.larch_methods.specs.DeriveBoxesBoxes as DeriveBoxesBoxes
pub use Rattle.larch_derive_formulas.specs.Consequences as DeriveFormulasConsequences
pub use Rattle.larch_derive_formulas.specs.DeriveLinesRules as DeriveLinesRules
pub use Rattle.larch_derive_formulas.specs.DeriveLinesWay as DeriveLinesWay
pub use Rattle.larch_methods.specs.Clauses as MethodsClauses
pub use Rattle.larch_methods.specs.Conjuncts as MethodsConjuncts
pub use Rattle.larch_methods.specs.Methods as MethodsMethods
pub use Rattle.larch_methods.specs.Observers as MethodsObservers
pub use Rattle.larch_methods.specs.Opening as MethodsOpening
pub use Rattle.larch_methods.specs.OrderPrecedenceRanked as OrderPrecedenceRanked
pub use Rattle.larch_methods.specs.ProveMeaningFacts as ProveMeaningFacts
pub use Rattle.larch_methods.specs.ProveMeaningLevels as ProveMeaningLevels
pub use Rattle.larch_methods.specs.ProveMeaningNewNames as ProveMeaningNewNames
pub use Rattle.larch_methods.specs.ProveMeaningPlans as ProveMeaningPlans
pub use Rattle.larch_methods.specs.ProveMeaningReplays as ProveMeaningReplays
pub use Rattle.larch_methods.specs.ProveMeaningSteps as ProveMeaningSteps
pub use Rattle.larch_methods.specs.ProveMeaningTaking as ProveMeaningTaking
pub use Rattle.larch_methods.specs.ProveMeaningWellSorted as ProveMeaningWellSorted
pub use Rattle.larch_methods.specs.ProvePlansClauseGoals as ProvePlansClauseGoals
pub use Rattle.larch_methods.specs.ProvePlansPlanning as ProvePlansPlanning
pub use Rattle.larch_methods.specs.ProvePlansShapes as ProvePlansShapes
pub use Rattle.larch_methods.specs.ProvePlansSubgoalsMethod as ProvePlansSubgoalsMethod
pub use Rattle.larch_methods.specs.ProvePlansSubgoalsSubgoal as ProvePlansSubgoalsSubgoal
pub use Rattle.larch_methods.specs.RewriteMeaningSides as RewriteMeaningSides
