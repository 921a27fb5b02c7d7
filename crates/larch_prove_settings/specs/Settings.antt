-- What commands of a proof can name, and what they set.
use Rattle.std.specs.Prelude.{◌≡◌, List}
use Rattle.larch_order.specs.declared.precedence.Ranked.{Ranked}
use Rattle.larch_prove_meaning.specs.Levels.{Proof}
use Rattle.larch_prove_meaning.specs.Steps.{own_operators}
use Rattle.larch_prove_settings.specs.declared.settings.Settings.{Settings}
use Rattle.larch_sorts_known.specs.Sorts.{existing_sorts}
use Rattle.larch_sorts_meaning.specs.Scope.{Variables}

-- the settings are those of a proof
pub record AreSettingsOf (settings : Settings) (p : Proof) : Type 0 where
  pub operators : settings.signature.value ≡ own_operators p
  pub sorts : settings.sorts.value ≡ existing_sorts p.theory.operators
  pub constants : settings.constants.value ≡ p.constants
  pub scope : settings.scope.value ≡ p.scope
  pub ranks : settings.precedence.value ≡ p.ranks
  pub limit : settings.limit ≡ p.limit

-- the proof with other variables in scope
abbrev pub with_scope : Variables → Proof → Proof
with_scope scope p = record p { scope = scope }

-- the proof with another precedence
abbrev pub with_ranks : List Ranked → Proof → Proof
with_ranks ranks p = record p { ranks = ranks }

-- the second settings are the first ones
pub record IsSameSettings (a b : Settings) : Type 0 where
  pub operators : b.signature.value ≡ a.signature.value
  pub sorts : b.sorts.value ≡ a.sorts.value
  pub constants : b.constants.value ≡ a.constants.value
  pub scope : b.scope.value ≡ a.scope.value
  pub ranks : b.precedence.value ≡ a.precedence.value
  pub limit : b.limit ≡ a.limit

-- the proof with these settings
abbrev pub with_settings : Settings → Proof → Proof
with_settings settings p = record p {
  scope = settings.scope.value;
  ranks = settings.precedence.value;
  limit = settings.limit;
}
