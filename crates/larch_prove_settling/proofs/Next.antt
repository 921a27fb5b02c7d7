-- The open subgoal of a method has a level of its own.
use Rattle.std.specs.Prelude.{◌≡◌, ℕ, true, false, List, [], ◌∷◌, ◌++◌, map, reverse, if◌then◌else◌}
use Rattle.std.specs.Prelude.{Result, Err, Ok, refl}
use Rattle.std.proofs.Common.{ap, ap₂, subst, sym, ◌∙◌}
use Rattle.std.proofs.lemmas.List.{reverse-append}
use Rattle.larch_base.specs.declared.code.Code.{Code}
use Rattle.larch_base.specs.declared.code.Code.TheVariants as code
use Rattle.larch_prove_draft.specs.OrderPrecedenceRanked.{Ranked}
use Rattle.larch_prove_draft.specs.ProveAddingKeptFacts.{facts_of}
use Rattle.larch_prove_draft.proofs.Alike.{marks_wait}
use Rattle.larch_prove_draft.proofs.Standing.{below_on}
use Rattle.larch_prove_draft.specs.Draft.{AreBelow, IsAlike, Stands, below_in}
use Rattle.larch_prove_draft.specs.Proving.{IsOver}
use Rattle.larch_prove_draft.specs.declared.draft.Draft.{Draft}
use Rattle.larch_prove_draft.specs.ProveInvariantHolding.{HoldsLevels}
use Rattle.larch_prove_draft.proofs.ProveLevelsRises.{next_open, next_proved, next_refused}
use Rattle.larch_prove_draft.specs.ProveLevelsOpened.{Opened, opened_by, with_next}
use Rattle.larch_prove_draft.specs.ProveLevelsSupposing.{TellsCode}
use Rattle.larch_prove_draft.specs.ProveLevelsLevelLevel.{Level}
use Rattle.larch_prove_draft.specs.ProveMeaningLevels as defined
use Rattle.larch_prove_draft.specs.ProveMeaningLevels.{Proof, is_settled, opened_from, rise}
use Rattle.larch_prove_draft.specs.ProveMeaningPlans as planned
use Rattle.larch_prove_draft.specs.ProvePlansSubgoalsMethod.{Method}
use Rattle.larch_prove_draft.specs.ProvePlansSubgoalsSubgoal.{Subgoal}
use Rattle.larch_prove_settling.proofs.Noting.{plan_among}
use Rattle.larch_prove_settling.specs.Entered.{Awaits, IsUpon}
use Rattle.larch_prove_settling.specs.Rising.{HasSubgoal}
use Rattle.larch_prove_draft.specs.RewriteRefusalRewriteRefusal.{RewriteRefusal}
use Rattle.larch_prove_draft.specs.RewriteRefusalRewriteRefusal.TheVariants.{Limit, TooLarge, Memory}
use Rattle.larch_store.specs.Numbered.{Numbered, term_of}
use Rattle.larch_store.specs.Stored.{Grows}
use Rattle.larch_term.specs.declared.statement.Statement.{Statement}
use Rattle.larch_term.specs.declared.statement.Theory.{Theory}

-- what was opened in a draft
abbrev pub opened_in : Draft → Opened
opened_in e = record {
  supposed = record { facts = facts_of e.current.facts; next = e.next_hypothesis };
  goal = term_of e.current.goal.term;
}

opened_so : (parent : defined.Level) (below : List defined.Level) (p : Proof) (gs hs : List planned.Subgoal)
    → gs ≡ hs
    → opened_from (λ q. rise below parent q) parent below gs p
    ≡ opened_from (λ q. rise below parent q) parent below hs p
opened_so parent below p gs hs e = ap (λ ss. opened_from (λ q. rise below parent q) parent below ss p) e

module _ (t : Theory) (s : Statement) (store : List Numbered) (d : Draft) (p : Proof) (below : List defined.Level)
    (parent : defined.Level) (method : Method) (subgoal : Subgoal)
    (gs : List planned.Subgoal) (w : HasSubgoal t s store d p below parent method subgoal gs) where
  -- its level may be entered
  pub awaits_now : Awaits t s p.constants (record parent { remaining = w.waiting } ∷ below) w.on w.others w.running
      d.builder d.current method subgoal
  awaits_now = record {
    held = w.held;
    kept = w.current;
    running = w.runs;
    method_is = w.method_is;
    subgoal_is = w.subgoal_is;
    among = plan_among p.constants w.on w.others w.running w.runs w.under.planned;
  }

  module _ (ranks : List Ranked) (limit : ℕ) where
    opened_there : (answer : Result Opened Code) → IsOver t ranks limit p
        → opened_by ranks limit w.running.now (record { facts = facts_of d.current.facts; next = d.next_hypothesis })
        ≡ answer
        → opened_by p.ranks p.limit w.running.now (record { facts = parent.facts; next = p.next_hypothesis }) ≡ answer
    opened_there answer o h =
        ap (λ x. opened_by x p.limit w.running.now (record { facts = parent.facts; next = p.next_hypothesis }))
        o.ranks_are
        ∙ ap (λ x. opened_by ranks x w.running.now (record { facts = parent.facts; next = p.next_hypothesis }))
        o.limit_is
        ∙ ap₂ (λ facts n. opened_by ranks limit w.running.now (record { facts = facts; next = n }))
        (ap (λ (l : defined.Level). l.facts) (sym w.parent_is) ∙ w.current.0.facts) (sym w.counts.1.1.0)
        ∙ h

    next_told : (x : Code)
        → opened_by p.ranks p.limit w.running.now (record { facts = parent.facts; next = p.next_hypothesis }) ≡ Err x
        → opened_from (λ q. rise below parent q) parent below gs p ≡ Err x
    next_told x h =
        opened_so parent below p gs (w.running.now ∷ w.waiting) w.order
        ∙ next_refused parent below w.running.now w.waiting p x h

    -- what refuses it refuses what it comes to
    pub next_tells : (r : RewriteRefusal) → IsOver t ranks limit p
        → TellsCode (opened_by ranks limit w.running.now (record {
          facts = facts_of d.current.facts;
          next = d.next_hypothesis;
        })) r
        → TellsCode (opened_from (λ q. rise below parent q) parent below gs p) r
    next_tells Limit o h = next_told code.Limit (opened_there _ o h)
    next_tells TooLarge o h = next_told code.Size (opened_there _ o h)
    next_tells Memory o h = tt

module _ (t : Theory) (s : Statement) (store more : List Numbered) (d e : Draft) (p : Proof)
    (below : List defined.Level) (parent : defined.Level) (method : Method) (subgoal : Subgoal)
    (gs : List planned.Subgoal) (w : HasSubgoal t s store d p below parent method subgoal gs) where
  abbrev pub next_proof : Proof
  next_proof = with_next parent below w.running.now w.waiting (opened_in e) p

  pub next_stands : Grows store more → e.checking ≡ d.checking
      → e.waiting.items ≡ (if d.checking then d.waiting.items ++ false ∷ [] else d.waiting.items)
      → e.next_derived ≡ d.next_derived → e.is_proved ≡ d.is_proved
      → map (λ l. l.value) e.below.items ≡ map (λ l. l.value) d.below.items ++ d.current ∷ []
      → (u : IsUpon t s p.constants (record parent { remaining = w.waiting } ∷ below) w.on w.others e.builder more
      e.current)
      → Stands t s more e next_proof u.entered (w.on ∷ w.others)
  next_stands g checking waits derived undone under u =
      let lower : below_in e ≡ d.current ∷ below_in d =
      ap reverse under ∙ reverse-append (map (λ l. l.value) d.below.items) (d.current ∷ []) in
      record {
        counts = (
          checking ∙ w.counts.0,
          (
            waits ∙ marks_wait d.checking p.checking d.waiting.items p.waiting false w.counts.0 w.counts.1.0,
            (refl, derived ∙ w.counts.1.1.1),
          ),
        );
        undone = (undone ∙ w.undone.0, w.undone.1);
        current = u.kept;
        level_is = u.level_is;
        idle = u.idle;
        ready = u.ready;
        stored = u.stored;
        below = subst (λ ls. AreBelow more ls p.constants (record parent { remaining = w.waiting } ∷ below)
            (w.on ∷ w.others)) (sym lower)
            (below_on store more (d.current ∷ below_in d) p.constants (record parent { remaining = w.waiting } ∷ below)
            (w.on ∷ w.others) g w.under);
        holds = subst (λ (l : defined.Level). HoldsLevels t s e.builder p.constants
            (l ∷ record parent { remaining = w.waiting } ∷ below) (u.entered ∷ w.on ∷ w.others)) u.level_is u.held;
      }

  pub next_alike : IsAlike p next_proof
  next_alike = record {
    theory = refl;
    lemmas = refl;
    scope = refl;
    constants = refl;
    ranks = refl;
    limit = refl;
    commands = refl;
  }

  module _ (o : opened_by p.ranks p.limit w.running.now (record { facts = parent.facts; next = p.next_hypothesis })
      ≡ Ok (opened_in e)) where
    pub next_stays : is_settled next_proof.current ≡ false
        → opened_from (λ q. rise below parent q) parent below gs p ≡ Ok next_proof
    next_stays h =
        opened_so parent below p gs (w.running.now ∷ w.waiting) w.order
        ∙ next_open parent below w.running.now w.waiting p (opened_in e) o h

    pub next_rises : is_settled next_proof.current ≡ true
        → opened_from (λ q. rise below parent q) parent below gs p ≡ rise next_proof.below next_proof.current next_proof
    next_rises h =
        opened_so parent below p gs (w.running.now ∷ w.waiting) w.order
        ∙ next_proved parent below w.running.now w.waiting p (opened_in e) o h

  -- what was opened, by what the code opened
  pub opened_same : (ranks : List Ranked) (limit : ℕ) (level : Level) → IsOver t ranks limit p → e.current ≡ level
      → opened_by ranks limit w.running.now (record { facts = facts_of d.current.facts; next = d.next_hypothesis })
      ≡ Ok (record {
        supposed = record { facts = facts_of level.facts; next = e.next_hypothesis };
        goal = term_of level.goal.term;
      })
      → opened_by p.ranks p.limit w.running.now (record { facts = parent.facts; next = p.next_hypothesis })
      ≡ Ok (opened_in e)
  opened_same ranks limit level o same h =
      opened_there t s store d p below parent method subgoal gs w ranks limit _ o h
      ∙ ap (λ (l : Level). Ok (record {
        supposed = record { facts = facts_of l.facts; next = e.next_hypothesis };
        goal = term_of l.goal.term;
      })) (sym same)
