-- What commands on facts work on: proofs that aren't done, and the drafts of them.
use Rattle.std.specs.Prelude.{◌≡◌, ◌∷◌, ℕ, List, All, None, Result}
use Rattle.std.proofs.Common.{ap, subst, sym, ◌∙◌}
use Rattle.larch_base.specs.declared.code.Code.{Code}
use Rattle.larch_base.specs.declared.fact_name.FactName.{FactName}
use Rattle.larch_derive.specs.Predicates.{Extends}
use Rattle.larch_derive.specs.declared.builder.Builder.{Builder}
use Rattle.larch_complete_pairs.specs.DeriveBoxesBoxes.{IsPart}
use Rattle.larch_order.specs.declared.precedence.Ranked.{Ranked}
use Rattle.larch_prove_work.specs.ProveAddingKeptFacts.{AreSaid, facts_of}
use Rattle.larch_prove_work.proofs.ProveDraftAlike.{leads_on, over_alike}
use Rattle.larch_prove_work.proofs.ProveDraftStanding.{proof_standing, stands_on}
use Rattle.larch_prove_work.specs.ProveDraftDraft.{IsProofBy, IsProofOf, Leads, Stands}
use Rattle.larch_prove_work.specs.ProveDraftProving.{IsOver}
use Rattle.larch_prove_work.specs.ProveDraftDraftDraft.{Draft}
use Rattle.larch_prove_facts.proofs.Among.{sorted_apply}
use Rattle.larch_prove_facts.proofs.Worked.{facts_are}
use Rattle.larch_prove_facts.specs.Derivation.{IsSomeUndone, IsUndone, Reaches, StandsFor}
use Rattle.larch_prove_facts.specs.Pairs.{RewriteApplications}
use Rattle.larch_prove_work.proofs.ProveInvariantBlockConstants.{open_parts}
use Rattle.larch_prove_work.specs.ProveInvariantBook.{Kept}
use Rattle.larch_prove_work.specs.ProveInvariantHolding.{open_constants}
use Rattle.larch_prove_meaning.specs.Facts.{Facts}
use Rattle.larch_prove_meaning.specs.Levels.{Proof, settle_goal}
use Rattle.larch_prove_meaning.specs.Steps.{without}
use Rattle.larch_prove_work.specs.ProveSettingsSettings.{AreSettingsOf}
use Rattle.larch_prove_work.specs.ProveSettlingRising.{IsSomeStanding}
use Rattle.larch_prove_work.proofs.Still.{settings_alike, whole_alike}
use Rattle.larch_prove_work.specs.Work.{IsWorkOf, Makes, MayWork}
use Rattle.larch_prove_work.specs.declared.work.Work.{Work}
use Rattle.larch_store.proofs.Growth.{grows_refl}
use Rattle.larch_store.specs.Numbered.{Numbered}
use Rattle.larch_term.specs.declared.statement.Statement.{Statement}
use Rattle.larch_term.specs.declared.statement.Theory.{Theory}
use Rattle.larch_base_meaning.specs.Steps.{after}

-- a command can go on where it can work
pub may_go_on : (t : Theory) (s : Statement) (w : Work) (p : Proof) → MayWork t s w p → IsUndone t s w p
may_go_on t s w p m = record { work = m.work; undone = m.undone }

-- what it works on stands
pub undone_stands : (t : Theory) (s : Statement) (w : Work) (p : Proof) → IsUndone t s w p
    → (k : Kept) × ((ks : List Kept) × Stands t s w.store w.draft p k ks)
undone_stands t s w p m = subst (λ b. IsProofBy b t s w.store w.draft p) m.undone m.work.draft

-- over the theory, by its settings
pub undone_over : (t : Theory) (s : Statement) (w : Work) (p : Proof) → IsUndone t s w p
    → IsOver t w.settings.precedence.value w.settings.limit p
undone_over t s w p m = record {
  theory = m.work.whole;
  ranks_are = sym m.work.settings.ranks;
  limit_is = sym m.work.settings.limit;
}

pub some_undone : (t : Theory) (s : Statement) (w : Work) → IsSomeUndone t s w
    → IsSomeStanding t s w.settings.precedence.value w.settings.limit w.store w.draft
some_undone t s w (p, m) =
    let z = undone_stands t s w p m in (p, (z.0, (z.1.0, (undone_over t s w p m, z.1.1))))

-- what is led to is worked on with the same settings
pub made_undone : (t : Theory) (s : Statement) (w v : Work) (p : Proof) (answer : Result Proof Code)
    → v.settings ≡ w.settings → IsUndone t s w p → Leads t s v.store v.draft p None answer → Makes t s v p answer
made_undone t s w v p answer same m (q, (e, (alike, l))) = (
  q,
  (
    e,
    (
      record {
        whole = whole_alike t p q alike m.work.whole;
        settings = subst (λ a. AreSettingsOf a q) (sym same) (settings_alike w.settings p q alike m.work.settings);
        draft = l;
      },
      alike.commands,
    ),
  ),
)

-- it is of the proof whose facts of a name were taken out
pub undone_without : (t : Theory) (s : Statement) (w : Work) (d : Draft) (n : FactName) (p : Proof) (ks : List Kept)
    → IsUndone t s w p → StandsFor t s w.store d (without n p) ks
    → IsUndone t s (record w { draft = d }) (without n p)
undone_without t s w d n p ks m h = record {
  work = record {
    whole = m.work.whole;
    settings = record {
      operators = m.work.settings.operators;
      sorts = m.work.settings.sorts;
      constants = m.work.settings.constants;
      scope = m.work.settings.scope;
      ranks = m.work.settings.ranks;
      limit = m.work.settings.limit;
    };
    draft = proof_standing t s w.store d (without n p) h.0 ks h.1;
  };
  undone = m.undone;
}

-- and of the same proof, when lines were pushed
pub undone_further : (t : Theory) (s : Statement) (w : Work) (d : Draft) (b : Builder) (p : Proof)
    → d ≡ record w.draft { builder = b } → Extends w.draft.builder b → IsUndone t s w p
    → IsUndone t s (record w { draft = d }) p
undone_further t s w d b p is x m =
    let z = undone_stands t s w p m in record {
      work = record {
        whole = m.work.whole;
        settings = m.work.settings;
        draft = subst (λ e. IsProofOf t s w.store e p) (sym is)
            (proof_standing t s w.store (record w.draft { builder = b }) p z.0 z.1.0
            (stands_on t s w.store w.store w.draft b p z.0 z.1.0 (grows_refl w.store) x z.1.1));
      };
      undone = m.undone;
    }

-- ---- what a draft's facts and boxes are

pub facts_of_work : (t : Theory) (s : Statement) (w : Work) (p : Proof) → IsUndone t s w p
    → facts_of w.draft.current.facts ≡ p.current.facts
facts_of_work t s w p m =
    let z = undone_stands t s w p m in facts_are t s w.store w.draft p z.0 z.1.0 z.1.1

pub work_said : (t : Theory) (s : Statement) (w : Work) (p : Proof) → IsUndone t s w p
    → AreSaid w.draft.builder w.draft.current.facts
work_said t s w p m = (undone_stands t s w p m).1.1.ready.said

pub work_parts : (t : Theory) (s : Statement) (w : Work) (p : Proof) → IsUndone t s w p
    → All IsPart (open_constants w.draft.builder)
work_parts t s w p m =
    let z = undone_stands t s w p m in let h = z.1.1.holds in
    open_parts t s w.draft.builder p.constants (z.0 ∷ z.1.0) h.held h.constants

pub work_applies : (t : Theory) (s : Statement) (w : Work) (p : Proof) → MayWork t s w p
    → RewriteApplications (facts_of w.draft.current.facts)
work_applies t s w p m =
    subst RewriteApplications (sym (facts_of_work t s w p (may_go_on t s w p m))) (sorted_apply p m.reached.sorted)

-- ---- behind the equations

pub reached_standing : (t : Theory) (s : Statement) (ranks : List Ranked) (limit : ℕ) (store : List Numbered)
    (d : Draft) (p : Proof) (answer : Result Proof Code) → IsOver t ranks limit p → Reaches t s store d p answer
    → IsSomeStanding t s ranks limit store d
reached_standing t s ranks limit store d p answer over r =
    (r.0, (r.1.1.1.1.0, (r.1.1.1.0, (over_alike t ranks limit p r.0 r.1.1.0 over, r.1.1.1.1.1))))

pub reached_settles : (t : Theory) (s : Statement) (store : List Numbered) (d : Draft) (p : Proof)
    (answer : Result Proof Code) → (r : Reaches t s store d p answer) → after answer settle_goal ≡ settle_goal r.0
reached_settles t s store d p answer r = ap (λ a. after a settle_goal) r.1.0

pub reached_leads : (t : Theory) (s : Statement) (store more : List Numbered) (d e : Draft) (p : Proof)
    (answer : Result Proof Code) → (r : Reaches t s store d p answer) → Leads t s more e r.0 None (settle_goal r.0)
    → Leads t s more e p None (after answer settle_goal)
reached_leads t s store more d e p answer r l =
    leads_on t s more e p r.0 None (settle_goal r.0) (after answer settle_goal) r.1.1.0
    (reached_settles t s store d p answer r) l
