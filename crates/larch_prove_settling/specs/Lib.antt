pub mod Entered
pub mod Parts
pub mod Rising
-- passed on to crates above, which then needn't list the crates that these are of
pub use Rattle.larch_prove_draft.specs.DeriveLinesWay as DeriveLinesWay
pub use Rattle.larch_prove_draft.specs.ProveAddingBeside as ProveAddingBeside
pub use Rattle.larch_prove_draft.specs.ProveAddingEquation as ProveAddingEquation
pub use Rattle.larch_prove_draft.specs.ProveAddingEquationSaidEquation as ProveAddingEquationSaidEquation
pub use Rattle.larch_prove_draft.specs.ProveAddingKeptFacts as ProveAddingKeptFacts
pub use Rattle.larch_prove_draft.specs.ProveAddingTurns as ProveAddingTurns
pub use Rattle.larch_prove_draft.specs.ProveBoxesBeginningBeginning as ProveBoxesBeginningBeginning
pub use Rattle.larch_prove_draft.specs.ProveBoxesBoxLists as ProveBoxesBoxLists
pub use Rattle.larch_prove_draft.specs.ProveBoxesExtras as ProveBoxesExtras
pub use Rattle.larch_prove_draft.specs.ProveBoxesLeave as ProveBoxesLeave
pub use Rattle.larch_prove_draft.specs.ProveBoxesLowest as ProveBoxesLowest
pub use Rattle.larch_prove_draft.specs.Draft as ProveDraftDraft
pub use Rattle.larch_prove_draft.specs.declared.draft.Draft as ProveDraftDraftDraft
pub use Rattle.larch_prove_draft.specs.Proving as ProveDraftProving
pub use Rattle.larch_prove_draft.specs.ProveInvariantBook as ProveInvariantBook
pub use Rattle.larch_prove_draft.specs.ProveInvariantHolding as ProveInvariantHolding
pub use Rattle.larch_prove_draft.specs.ProveInvariantSetting as ProveInvariantSetting
pub use Rattle.larch_prove_draft.specs.ProveLevelsDerived as ProveLevelsDerived
pub use Rattle.larch_prove_draft.specs.ProveLevelsLevel as ProveLevelsLevel
pub use Rattle.larch_prove_draft.specs.ProveLevelsLevelLevel as ProveLevelsLevelLevel
pub use Rattle.larch_prove_draft.specs.ProveLevelsLevelPlanned as ProveLevelsLevelPlanned
pub use Rattle.larch_prove_draft.specs.ProveLevelsLevelPurpose as ProveLevelsLevelPurpose
pub use Rattle.larch_prove_draft.specs.ProveLevelsLevelRunning as ProveLevelsLevelRunning
pub use Rattle.larch_prove_draft.specs.ProveLevelsOpened as ProveLevelsOpened
pub use Rattle.larch_prove_draft.specs.ProveLevelsSupposing as ProveLevelsSupposing
pub use Rattle.larch_prove_draft.specs.RewriteKept as RewriteKept
pub use Rattle.larch_prove_draft.specs.RewriteKeptKeptForm as RewriteKeptKeptForm
pub use Rattle.larch_prove_draft.specs.RewriteRefusalRewriteRefusal as RewriteRefusalRewriteRefusal
pub use Rattle.larch_prove_draft.specs.RewriteRuleSet as RewriteRuleSet
pub use Rattle.larch_prove_draft.specs.TraitsItemsLaws as TraitsItemsLaws
