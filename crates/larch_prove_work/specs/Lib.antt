pub mod Formula
pub mod Opened
pub mod Work
pub mod Written
-- passed on to crates above, which then needn't list the crates that these are of
pub use Rattle.larch_derive.specs.declared.builder.Builder as DeriveBuilderBuilder
pub use Rattle.larch_derive.specs.declared.open_box.OpenBox as DeriveOpen_boxOpenBox
pub use Rattle.larch_prove_settling.specs.ProveAddingBeside as ProveAddingBeside
pub use Rattle.larch_prove_settling.specs.ProveAddingEquation as ProveAddingEquation
pub use Rattle.larch_prove_settling.specs.ProveAddingEquationSaidEquation as ProveAddingEquationSaidEquation
pub use Rattle.larch_prove_settling.specs.ProveAddingKeptFacts as ProveAddingKeptFacts
pub use Rattle.larch_prove_settling.specs.ProveAddingTurns as ProveAddingTurns
pub use Rattle.larch_prove_settling.specs.ProveBoxesBoxLists as ProveBoxesBoxLists
pub use Rattle.larch_prove_settling.specs.ProveBoxesLeave as ProveBoxesLeave
pub use Rattle.larch_prove_settling.specs.ProveDraftDraft as ProveDraftDraft
pub use Rattle.larch_prove_settling.specs.ProveDraftDraftDraft as ProveDraftDraftDraft
pub use Rattle.larch_prove_settling.specs.ProveDraftProving as ProveDraftProving
pub use Rattle.larch_prove_settling.specs.ProveInvariantBook as ProveInvariantBook
pub use Rattle.larch_prove_settling.specs.ProveInvariantHolding as ProveInvariantHolding
pub use Rattle.larch_prove_settling.specs.ProveInvariantSetting as ProveInvariantSetting
pub use Rattle.larch_prove_settling.specs.ProveLevelsDerived as ProveLevelsDerived
pub use Rattle.larch_prove_settling.specs.ProveLevelsLevel as ProveLevelsLevel
pub use Rattle.larch_prove_settling.specs.ProveLevelsLevelLevel as ProveLevelsLevelLevel
pub use Rattle.larch_prove_settling.specs.ProveLevelsLevelPlanned as ProveLevelsLevelPlanned
pub use Rattle.larch_prove_settling.specs.ProveLevelsLevelRunning as ProveLevelsLevelRunning
pub use Rattle.larch_prove_settling.specs.ProveLevelsSupposing as ProveLevelsSupposing
pub use Rattle.larch_prove_settings.specs.declared.refusal.CommandRefusal as ProveSettingsRefusalCommandRefusal
pub use Rattle.larch_prove_settings.specs.Scope as ProveSettingsScope
pub use Rattle.larch_prove_settings.specs.Settings as ProveSettingsSettings
pub use Rattle.larch_prove_settings.specs.declared.settings.Settings as ProveSettingsSettingsSettings
pub use Rattle.larch_prove_settings.specs.Telling as ProveSettingsTelling
pub use Rattle.larch_prove_settling.specs.Rising as ProveSettlingRising
pub use Rattle.larch_prove_settling.specs.RewriteRefusalRewriteRefusal as RewriteRefusalRewriteRefusal
pub use Rattle.larch_prove_settling.specs.RewriteRuleSet as RewriteRuleSet
pub use Rattle.larch_prove_settling.specs.TraitsItemsLaws as TraitsItemsLaws
