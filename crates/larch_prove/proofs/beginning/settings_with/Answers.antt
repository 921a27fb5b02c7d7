-- A copy of the settings, with the constants put behind.
use Rattle.std.proofs.Common.{ap, ◌++◌, ◌∙◌}
use Rattle.larch_prove.proofs.beginning.settings_with.Goals as goal
use Rattle.larch_prove_beginning.specs.ProveSettingsSettingsSettings.{Settings}

pub returns : goal.returns
returns c = record {
  operators = c.in_ok-name_constants.ensures.operators
      ∙ ap (λ fs. fs ++ c.args.constants.now) c.in_ok-settings.ensures.operators;
  sorts = ap (λ (s : Settings). s.sorts.value) c.in_ok-name_constants.ensures.rest ∙ c.in_ok-settings.ensures.sorts;
  constants = c.in_ok-name_constants.ensures.constants
      ∙ ap (λ fs. fs ++ c.args.constants.now) c.in_ok-settings.ensures.constants;
  limit = ap (λ (s : Settings). s.limit) c.in_ok-name_constants.ensures.rest ∙ c.in_ok-settings.ensures.limit;
}
