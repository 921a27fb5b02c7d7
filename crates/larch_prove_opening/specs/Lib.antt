pub mod FirstFacts
pub mod Stating
-- passed on to crates above, which then needn't list the crates that these are of
pub use Rattle.larch_prove_adding.specs.Equation as ProveAddingEquation
pub use Rattle.larch_prove_adding.specs.declared.equation.SaidEquation as ProveAddingEquationSaidEquation
pub use Rattle.larch_prove_adding.specs.KeptFacts as ProveAddingKeptFacts
pub use Rattle.larch_prove_adding.specs.ProveInvariantBook as ProveInvariantBook
pub use Rattle.larch_prove_adding.specs.ProveInvariantHolding as ProveInvariantHolding
pub use Rattle.larch_prove_adding.specs.ProvePlansClauseGoals as ProvePlansClauseGoals
pub use Rattle.larch_prove_adding.specs.ProvePlansPlanning as ProvePlansPlanning
pub use Rattle.larch_prove_adding.specs.ProvePlansSubgoalsSubgoal as ProvePlansSubgoalsSubgoal
pub use Rattle.larch_prove_adding.specs.RewriteRefusalRewriteRefusal as RewriteRefusalRewriteRefusal
pub use Rattle.larch_prove_adding.specs.RewriteRuleSet as RewriteRuleSet
