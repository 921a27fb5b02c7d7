pub mod Beginning
pub mod Goal
pub mod Hypotheses
pub mod Level
pub mod Opening
-- passed on to crates above, which then needn't list the crates that these are of
pub use Rattle.larch_prove_opening.specs.Stating as ProveOpeningStating
pub use Rattle.larch_prove_settings.specs.Changing as ProveSettingsChanging
pub use Rattle.larch_prove_settings.specs.declared.refusal.CommandRefusal as ProveSettingsRefusalCommandRefusal
pub use Rattle.larch_prove_settings.specs.Settings as ProveSettingsSettings
pub use Rattle.larch_prove_settings.specs.declared.settings.Settings as ProveSettingsSettingsSettings
pub use Rattle.larch_prove_settings.specs.Telling as ProveSettingsTelling
