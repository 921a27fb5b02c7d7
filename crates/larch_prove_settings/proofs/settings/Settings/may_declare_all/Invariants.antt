use Rattle.std.proofs.Common.{◌≡◌, drop}
use Rattle.std.specs.List.{list_all}
use Rattle.larch_prove_meaning.specs.Levels.{Proof}
use Rattle.larch_prove_meaning.specs.Steps.{may_declare, texts}
use Rattle.larch_prove_settings.specs.Settings.{AreSettingsOf}
use Rattle.larch_prove_settings.proofs.settings.Settings.may_declare_all.Given as goal

-- what is left tells it
abbrev pub invariant-loop-word : goal.invariant-loop-word
invariant-loop-word l =
    (p : Proof) → AreSettingsOf l.self p
    → list_all (may_declare p l.sort) (texts (drop l.word-index l.names))
    ≡ list_all (may_declare p l.sort) (texts l.names)
