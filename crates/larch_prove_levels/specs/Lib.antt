pub mod Derived
pub mod Level
pub mod Opened
pub mod Settled
pub mod Supposing
-- passed on to crates above, which then needn't list the crates that these are of
pub use Rattle.larch_prove_boxes.specs.CalculusTheories as CalculusTheories
pub use Rattle.larch_prove_boxes.specs.DeriveBuilder as DeriveBuilder
pub use Rattle.larch_prove_boxes.specs.DeriveBuilderBuilder as DeriveBuilderBuilder
pub use Rattle.larch_prove_boxes.specs.DeriveFinished as DeriveFinished
pub use Rattle.larch_prove_boxes.specs.DeriveLinesWay as DeriveLinesWay
pub use Rattle.larch_prove_boxes.specs.DerivePredicates as DerivePredicates
pub use Rattle.larch_prove_boxes.specs.OrderPrecedenceRanked as OrderPrecedenceRanked
pub use Rattle.larch_prove_adding.specs.Beside as ProveAddingBeside
pub use Rattle.larch_prove_adding.specs.Equation as ProveAddingEquation
pub use Rattle.larch_prove_adding.specs.declared.equation.SaidEquation as ProveAddingEquationSaidEquation
pub use Rattle.larch_prove_adding.specs.KeptFacts as ProveAddingKeptFacts
pub use Rattle.larch_prove_adding.specs.Turns as ProveAddingTurns
pub use Rattle.larch_prove_boxes.specs.declared.beginning.Beginning as ProveBoxesBeginningBeginning
pub use Rattle.larch_prove_boxes.specs.BoxLists as ProveBoxesBoxLists
pub use Rattle.larch_prove_boxes.specs.Ends as ProveBoxesEnds
pub use Rattle.larch_prove_boxes.specs.Entering as ProveBoxesEntering
pub use Rattle.larch_prove_boxes.specs.declared.entering.Entrance as ProveBoxesEnteringEntrance
pub use Rattle.larch_prove_boxes.specs.Extras as ProveBoxesExtras
pub use Rattle.larch_prove_boxes.specs.Leave as ProveBoxesLeave
pub use Rattle.larch_prove_boxes.specs.declared.leave.Leave as ProveBoxesLeaveLeave
pub use Rattle.larch_prove_boxes.specs.Lowest as ProveBoxesLowest
pub use Rattle.larch_prove_boxes.specs.Saying as ProveBoxesSaying
pub use Rattle.larch_prove_boxes.specs.ProveInvariantBook as ProveInvariantBook
pub use Rattle.larch_prove_boxes.specs.ProveInvariantEnding as ProveInvariantEnding
pub use Rattle.larch_prove_boxes.specs.ProveInvariantHolding as ProveInvariantHolding
pub use Rattle.larch_prove_boxes.specs.ProveInvariantLeaving as ProveInvariantLeaving
pub use Rattle.larch_prove_boxes.specs.ProveInvariantSetting as ProveInvariantSetting
pub use Rattle.larch_prove_boxes.specs.ProveMeaningFacts as ProveMeaningFacts
pub use Rattle.larch_prove_boxes.specs.ProveMeaningLevels as ProveMeaningLevels
pub use Rattle.larch_prove_boxes.specs.ProveMeaningPlans as ProveMeaningPlans
pub use Rattle.larch_prove_boxes.specs.ProvePlansPlanning as ProvePlansPlanning
pub use Rattle.larch_prove_boxes.specs.ProvePlansSubgoalsMethod as ProvePlansSubgoalsMethod
pub use Rattle.larch_prove_boxes.specs.ProvePlansSubgoalsSubgoal as ProvePlansSubgoalsSubgoal
pub use Rattle.larch_prove_adding.specs.RewriteKept as RewriteKept
pub use Rattle.larch_prove_adding.specs.RewriteKeptKeptForm as RewriteKeptKeptForm
pub use Rattle.larch_prove_adding.specs.RewriteMeaningNormalForm as RewriteMeaningNormalForm
pub use Rattle.larch_prove_adding.specs.RewriteMeaningSides as RewriteMeaningSides
pub use Rattle.larch_prove_adding.specs.RewriteRefusalRewriteRefusal as RewriteRefusalRewriteRefusal
pub use Rattle.larch_prove_adding.specs.RewriteRuleSet as RewriteRuleSet
pub use Rattle.larch_prove_boxes.specs.TraitsItemsLaws as TraitsItemsLaws
