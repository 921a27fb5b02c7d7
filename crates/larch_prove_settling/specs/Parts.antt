-- Levels that are taken away from the others.
use Rattle.std.specs.Prelude.{◌≡◌, List, [], ◌∷◌, ◌++◌, IsTrue}
use Rattle.larch_derive.specs.declared.builder.Builder.{Builder}
use Rattle.larch_prove_draft.specs.ProveAddingKeptFacts.{AreSaid, facts_of, lines_of}
use Rattle.larch_prove_draft.specs.ProveInvariantHolding.{HasAbsurd, HasFacts}
use Rattle.larch_prove_draft.specs.ProveLevelsLevel.{IsCopy}
use Rattle.larch_prove_draft.specs.ProveLevelsLevelLevel.{Level}
use Rattle.larch_prove_draft.specs.RewriteRuleSet.{BelongsTo}
use Rattle.larch_store.specs.Numbered.{Numbered}

-- the last of levels is taken away, and this is a copy of it
pub record IsPopped (old new : List Level) (popped : Level) : Type 0 where
  pub last : Level
  pub levels_are : old ≡ new ++ last ∷ []
  pub same : IsCopy last popped
  pub kept : (s : List Numbered) → BelongsTo s popped.facts.rules
  pub said : (b : Builder) → HasFacts b (facts_of last.facts).rules (lines_of last.facts)
      → (IsTrue (facts_of last.facts).contradictory → HasAbsurd b last.facts.absurd) → AreSaid b popped.facts
