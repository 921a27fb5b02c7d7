-- Work on a proof is work on a proof that is alike; and so is a copy of it.
use Rattle.std.specs.Prelude.{◌≡◌, List, ◌++◌, map}
use Rattle.std.proofs.Common.{ap, ap₂, subst, sym, ◌∙◌}
use Rattle.larch_derive.specs.CalculusTheories.{with_statements}
use Rattle.larch_prove_settling.specs.ProveDraftDraft.{IsAlike, IsProofOf}
use Rattle.larch_prove_settling.specs.ProveInvariantHolding.{theory_for}
use Rattle.larch_prove_settings.specs.ProveMeaningLevels.{EarlierDuty, Proof}
use Rattle.larch_prove_settings.specs.Settings.{AreSettingsOf, IsSameSettings}
use Rattle.larch_prove_settings.specs.declared.settings.Settings.{Settings}
use Rattle.larch_prove_work.specs.Work.{IsWorkOf}
use Rattle.larch_prove_work.specs.declared.work.Work.{Work}
use Rattle.larch_sorts_known.specs.Sorts.{existing_sorts}
use Rattle.larch_store.specs.Numbered.{Numbered}
use Rattle.larch_term.specs.Operator.{PlainOperator}
use Rattle.larch_term.specs.declared.statement.Statement.{Statement}
use Rattle.larch_term.specs.declared.statement.Theory.{Theory}

-- the same settings are those of the same proofs
settings_same : (a b : Settings) (p : Proof) → IsSameSettings a b → AreSettingsOf a p → AreSettingsOf b p
settings_same a b p e w = record {
  operators = e.operators ∙ w.operators;
  sorts = e.sorts ∙ w.sorts;
  constants = e.constants ∙ w.constants;
  scope = e.scope ∙ w.scope;
  ranks = e.ranks ∙ w.ranks;
  limit = e.limit ∙ w.limit;
}

-- settings of a proof are those of one that is alike
pub settings_alike : (a : Settings) (p q : Proof) → IsAlike p q → AreSettingsOf a p → AreSettingsOf a q
settings_alike a p q e w = record {
  operators = w.operators
      ∙ sym (ap₂ (λ (t : Theory) (cs : List PlainOperator). t.operators ++ cs) e.theory e.constants);
  sorts = w.sorts ∙ sym (ap (λ (t : Theory). existing_sorts t.operators) e.theory);
  constants = w.constants ∙ sym e.constants;
  scope = w.scope ∙ sym e.scope;
  ranks = w.ranks ∙ sym e.ranks;
  limit = w.limit ∙ sym e.limit;
}

pub whole_alike : (t : Theory) (p q : Proof) → IsAlike p q → theory_for p ≡ t → theory_for q ≡ t
whole_alike t p q e w =
    ap₂ (λ u ls. with_statements u (map (λ (l : EarlierDuty). l.statement) ls)) e.theory e.lemmas ∙ w

-- a copy of what commands work on
pub copied_work : (t : Theory) (s : Statement) (a b : Work) (p : Proof) → IsSameSettings a.settings b.settings
    → b.store ≡ a.store
    → ((u : Theory) (v : Statement) (store : List Numbered) (q : Proof) → IsProofOf u v store a.draft q
    → IsProofOf u v store b.draft q)
    → IsWorkOf t s a p → IsWorkOf t s b p
copied_work t s a b p settings store draft w = record {
  whole = w.whole;
  settings = settings_same a.settings b.settings p settings w.settings;
  draft = subst (λ ns. IsProofOf t s ns b.draft p) (sym store) (draft t s a.store p w.draft);
}
