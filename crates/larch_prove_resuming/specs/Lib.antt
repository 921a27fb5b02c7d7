pub mod Commands
pub mod Resuming
-- passed on to crates above, which then needn't list the crates that these are of
pub use Rattle.larch_prove_work.specs.ProveBoxesLeave as ProveBoxesLeave
pub use Rattle.larch_prove_work.specs.ProveDraftDraft as ProveDraftDraft
pub use Rattle.larch_prove_work.specs.ProveDraftDraftDraft as ProveDraftDraftDraft
pub use Rattle.larch_prove_work.specs.ProveDraftProving as ProveDraftProving
pub use Rattle.larch_prove_work.specs.ProveInvariantBook as ProveInvariantBook
pub use Rattle.larch_prove_work.specs.ProveInvariantHolding as ProveInvariantHolding
pub use Rattle.larch_prove_work.specs.ProveLevelsLevel as ProveLevelsLevel
pub use Rattle.larch_prove_work.specs.ProveLevelsLevelLevel as ProveLevelsLevelLevel
pub use Rattle.larch_prove_work.specs.ProveLevelsLevelPlanned as ProveLevelsLevelPlanned
pub use Rattle.larch_prove_work.specs.ProveLevelsLevelRunning as ProveLevelsLevelRunning
pub use Rattle.larch_prove_work.specs.ProveLevelsSupposing as ProveLevelsSupposing
pub use Rattle.larch_prove_plans.specs.Planning as ProvePlansPlanning
pub use Rattle.larch_prove_plans.specs.declared.subgoals.Plan as ProvePlansSubgoalsPlan
pub use Rattle.larch_prove_work.specs.Work as ProveWorkWork
pub use Rattle.larch_prove_work.specs.declared.work.Claim as ProveWorkWorkClaim
pub use Rattle.larch_prove_work.specs.declared.work.Work as ProveWorkWorkWork
pub use Rattle.larch_prove_work.specs.RewriteRefusalRewriteRefusal as RewriteRefusalRewriteRefusal
pub use Rattle.larch_prove_work.specs.TraitsItemsLaws as TraitsItemsLaws
