-- Commands that change one setting keep the others.
use Rattle.std.specs.Prelude.{◌≡◌, refl}
use Rattle.std.proofs.Common.{sym, ◌∙◌}
use Rattle.larch_prove_meaning.specs.Levels.{Proof}
use Rattle.larch_prove_settings.specs.Settings.{AreSettingsOf, with_ranks, with_scope, with_settings}
use Rattle.larch_prove_settings.specs.declared.settings.Settings.{Settings}

-- where the other settings stay as they are, these are the proof's behind the command
pub with_scope_alone : (old new : Settings) (p : Proof) → AreSettingsOf old p
    → new.precedence.value ≡ old.precedence.value → new.limit ≡ old.limit
    → with_scope new.scope.value p ≡ with_settings new p
with_scope_alone old new p are ranks limit =
    λ i. record p { scope = new.scope.value; ranks = (sym (ranks ∙ are.ranks)) i; limit = (sym (limit ∙ are.limit)) i }

pub with_ranks_alone : (old new : Settings) (p : Proof) → AreSettingsOf old p → new.scope.value ≡ old.scope.value
    → new.limit ≡ old.limit → with_ranks new.precedence.value p ≡ with_settings new p
with_ranks_alone old new p are scope limit =
    λ i. record p {
      scope = (sym (scope ∙ are.scope)) i;
      ranks = new.precedence.value;
      limit = (sym (limit ∙ are.limit)) i;
    }

pub with_limit_alone : (old new : Settings) (p : Proof) → AreSettingsOf old p → new.scope.value ≡ old.scope.value
    → new.precedence.value ≡ old.precedence.value → (record p { limit = new.limit }) ≡ with_settings new p
with_limit_alone old new p are scope ranks =
    λ i. record p { scope = (sym (scope ∙ are.scope)) i; ranks = (sym (ranks ∙ are.ranks)) i; limit = new.limit }

-- so they are its settings
pub still_settings : (old new : Settings) (p : Proof) → AreSettingsOf old p → new.signature.value ≡ old.signature.value
    → new.sorts.value ≡ old.sorts.value → new.constants.value ≡ old.constants.value
    → AreSettingsOf new (with_settings new p)
still_settings old new p are signature sorts constants = record {
  operators = signature ∙ are.operators;
  sorts = sorts ∙ are.sorts;
  constants = constants ∙ are.constants;
  scope = refl;
  ranks = refl;
  limit = refl;
}
