-- A draft stands when its current level was worked on: its facts are others, and its goal.
use Rattle.std.specs.Prelude.{◌≡◌, ◌+◌, ℕ, List, [], ◌∷◌, None, Result, Ok, refl}
use Rattle.std.proofs.Common.{ap, ap₂, subst, sym, ◌∙◌}
use Rattle.larch_base.specs.declared.code.Code.{Code}
use Rattle.larch_base.specs.declared.fact_name.FactName.{FactName}
use Rattle.larch_derive.proofs.Growth.{extends_grows, extends_refl}
use Rattle.larch_derive.specs.Predicates.{Extends}
use Rattle.larch_derive.specs.declared.builder.Builder.{Builder}
use Rattle.larch_order.specs.declared.precedence.Ranked.{Ranked}
use Rattle.larch_prove_work.specs.ProveAddingBeside.{facts_without}
use Rattle.larch_prove_work.specs.ProveAddingKeptFacts.{AreSaid, facts_of, lines_of}
use Rattle.larch_prove_work.specs.ProveAddingKeptFacts as kept
use Rattle.larch_prove_work.specs.ProveBoxesBoxLists.{box_list}
use Rattle.larch_prove_work.proofs.ProveDraftStanding.{below_on}
use Rattle.larch_prove_work.specs.ProveDraftDraft.{AreBelow, IsAlike, Stands, below_in}
use Rattle.larch_prove_work.specs.ProveDraftProving.{IsOver}
use Rattle.larch_prove_work.specs.ProveDraftDraftDraft.{Draft}
use Rattle.larch_prove_facts.specs.Derivation.{Reaches, StandsFor}
use Rattle.larch_prove_work.proofs.ProveInvariantHeld.{none_waits}
use Rattle.larch_prove_work.proofs.ProveInvariantLevelConstants.{levels_worked}
use Rattle.larch_prove_work.specs.ProveInvariantBook.{IsWorkedOn, Kept}
use Rattle.larch_prove_work.specs.ProveInvariantHolding.{HoldsLevels, Says}
use Rattle.larch_prove_work.proofs.ProveLevelsRises.{derive_by}
use Rattle.larch_prove_work.proofs.ProveLevelsTelling.{tells_first, tells_same}
use Rattle.larch_prove_work.specs.ProveLevelsDerived.{Worked, derived_in, with_derived}
use Rattle.larch_prove_work.specs.ProveLevelsLevel.{IsReady, RunsLikeAny, purpose_of}
use Rattle.larch_prove_work.specs.ProveLevelsSupposing.{TellsCode}
use Rattle.larch_prove_work.specs.ProveLevelsLevelLevel.{Level}
use Rattle.larch_prove_meaning.specs.Facts.{Facts}
use Rattle.larch_prove_meaning.specs.Levels as defined
use Rattle.larch_prove_meaning.specs.Levels.{Proof, derive}
use Rattle.larch_prove_meaning.specs.Steps.{without}
use Rattle.larch_prove_work.proofs.ProveSettlingEntersUpon.{level_says}
use Rattle.larch_prove_work.proofs.ProveSettlingProved.{same_derived, worked_level, worked_stored}
use Rattle.larch_prove_work.specs.RewriteRuleSet.{BelongsTo}
use Rattle.larch_prove_work.specs.RewriteRefusalRewriteRefusal.{RewriteRefusal}
use Rattle.larch_rewrite_meaning.specs.Sides.{Sides}
use Rattle.larch_store.proofs.Growth.{grows_refl}
use Rattle.larch_store.specs.Numbered.{Numbered, term_of}
use Rattle.larch_store.specs.Stored.{Grows}
use Rattle.larch_term.specs.Tree.{Tree}
use Rattle.larch_term.specs.declared.statement.Statement.{Statement}
use Rattle.larch_term.specs.declared.statement.Theory.{Theory}
use Rattle.larch_base_meaning.specs.Steps.{after}

-- the proof with these facts, this goal and this next number
abbrev pub proof_with : Facts → Tree → ℕ → Proof → Proof
proof_with facts goal n p =
    record p { current = record p.current { facts = facts; goal = goal }; next_derived = n }

-- what is kept of a level, as the code has worked on it
abbrev pub kept_worked : Level → Kept → Kept
kept_worked l k = record {
  level = record k.level { facts = facts_of l.facts; goal = term_of l.goal.term };
  book = record k.book { lines = lines_of l.facts; absurd = l.facts.absurd; way = l.goal.way };
}

pub with_alike : (facts : Facts) (goal : Tree) (n : ℕ) (p : Proof) → IsAlike p (proof_with facts goal n p)
with_alike facts goal n p = record {
  theory = refl;
  lemmas = refl;
  scope = refl;
  constants = refl;
  ranks = refl;
  limit = refl;
  commands = refl;
}

module _ (t : Theory) (s : Statement) (store : List Numbered) (d : Draft) (p : Proof) (k : Kept) (ks : List Kept)
    (w : Stands t s store d p k ks) where
  -- the draft's facts and goal are the proof's
  pub facts_are : facts_of d.current.facts ≡ p.current.facts
  facts_are = sym w.current.0.facts ∙ ap (λ (l : defined.Level). l.facts) w.level_is

  pub goal_is : term_of d.current.goal.term ≡ p.current.goal
  goal_is = sym w.current.0.goal ∙ ap (λ (l : defined.Level). l.goal) w.level_is

  nothing_waits : k.level.remaining ≡ []
  nothing_waits = let h = w.holds.held.1.1.1 in none_waits h.outside d.builder k w.idle h.running

  pub stands_worked : (more : List Numbered) (e : Draft) (n : ℕ) → Grows store more → Extends d.builder e.builder
      → e.current ≡ record d.current { facts = e.current.facts; goal = e.current.goal }
      → IsReady more e.builder e.current → e.checking ≡ d.checking → e.waiting.items ≡ d.waiting.items
      → e.next_hypothesis ≡ d.next_hypothesis → e.next_derived ≡ n → e.is_proved ≡ d.is_proved
      → below_in e ≡ below_in d
      → Stands t s more e (proof_with (facts_of e.current.facts) (term_of e.current.goal.term) n p)
      (kept_worked e.current k) ks
  stands_worked more e n g x rest ready checking waits hypothesis derived undone lower =
      let first : e.current.first ≡ d.current.first = ap (λ (l : Level). l.first) rest in
      let worked : IsWorkedOn k (kept_worked e.current k) = record {
        purpose = refl;
        first = refl;
        entrance = refl;
        extras = refl;
        before = record { running = w.idle; remaining = nothing_waits };
        behind = record { running = w.idle; remaining = nothing_waits };
      } in
      let says : Says e.builder (kept_worked e.current k) =
      level_says e.builder more e.current (kept_worked e.current k) ready refl refl refl refl refl
      (w.current.0.first ∙ ap term_of (sym first)) in
      record {
        counts = (
          checking ∙ w.counts.0,
          (waits ∙ w.counts.1.0, (hypothesis ∙ w.counts.1.1.0, derived)),
        );
        undone = (undone ∙ w.undone.0, w.undone.1);
        current = (
          record {
            purpose = w.current.0.purpose
                ∙ ap₂ (λ u x. purpose_of u (term_of x)) (ap (λ (l : Level). l.purpose) (sym rest)) (sym first);
            facts = refl;
            lines = refl;
            absurd = refl;
            goal = refl;
            way = refl;
            first = w.current.0.first ∙ ap term_of (sym first);
            entrance = w.current.0.entrance ∙ ap (λ (l : Level). box_list l.entrance) (sym rest);
            extras = w.current.0.extras ∙ ap (λ (l : Level). l.extras) (sym rest);
            making = w.current.0.making;
          },
          subst (λ o. RunsLikeAny o k.book.running k.level.remaining) (ap (λ (l : Level). l.running) (sym rest))
              w.current.1,
        );
        level_is = ap (λ (l : defined.Level). record l {
          facts = facts_of e.current.facts;
          goal = term_of e.current.goal.term;
        }) w.level_is;
        idle = w.idle;
        ready = ready;
        stored = worked_stored store more e.builder d.current e.current g rest ready w.stored;
        below = subst (λ ls. AreBelow more ls p.constants p.below ks) (sym lower)
            (below_on store more (below_in d) p.constants p.below ks g w.below);
        holds = subst (λ ls. HoldsLevels t s e.builder p.constants ls (kept_worked e.current k ∷ ks))
            (ap₂ (λ (l : defined.Level) (ls : List defined.Level). record l {
              facts = facts_of e.current.facts;
              goal = term_of e.current.goal.term;
            } ∷ ls) w.level_is w.below.levels_are)
            (levels_worked t s d.builder e.builder p.constants (p.current ∷ p.below) k (kept_worked e.current k) ks
            (extends_grows d.builder e.builder x) worked says w.holds);
      }

  -- facts are taken out
  pub stands_without : (n : FactName) (others : kept.KeptFacts)
      → facts_of others ≡ facts_without n (facts_of d.current.facts)
      → ((m : List Numbered) → BelongsTo m others.rules)
      → ((b : Builder) → AreSaid b d.current.facts → AreSaid b others)
      → StandsFor t s store (record d { current = record d.current { facts = others } }) (without n p) ks
  stands_without n others facts kept said =
      let e = record d { current = record d.current { facts = others } } in
      let ready : IsReady store d.builder e.current = record {
        goal = w.ready.goal;
        kept = kept store;
        said = said d.builder w.ready.said;
        way = w.ready.way;
      } in (
        kept_worked e.current k,
        subst (λ q. Stands t s store e q (kept_worked e.current k) ks)
            (ap₂ (λ (fs : Facts) u. proof_with fs u p.next_derived p)
            (facts ∙ ap (λ (fs : Facts). facts_without n fs) facts_are) goal_is)
            (stands_worked store e p.next_derived (grows_refl store) (extends_refl d.builder) refl ready refl refl
            refl w.counts.1.1.1 refl refl),
      )

  -- what is derived of a proof, by what the code derives
  pub derived_as : (ranks : List Ranked) (limit : ℕ) (e : Sides) (answer : Result Worked Code) → IsOver t ranks limit p
      → derived_in ranks limit e d.next_derived (worked_level d.current) ≡ answer
      → derive e p ≡ after answer (λ made. Ok (with_derived made p))
  derived_as ranks limit e answer over h =
      derive_by e p
      ∙ ap (λ r. after r (λ made. Ok (with_derived made p)))
      (same_derived ranks p.ranks limit p.limit e e d.next_derived p.next_derived (worked_level d.current)
      (record { facts = p.current.facts; goal = p.current.goal }) answer over.ranks_are over.limit_is refl
      (sym w.counts.1.1.1)
      (ap₂ (λ facts goal. record { facts = facts; goal = goal }) (sym facts_are) (sym goal_is)) h)

  pub derived_refused : (ranks : List Ranked) (limit : ℕ) (e : Sides) (r : RewriteRefusal) → IsOver t ranks limit p
      → TellsCode (derived_in ranks limit e d.next_derived (worked_level d.current)) r → TellsCode (derive e p) r
  derived_refused ranks limit e r over h =
      tells_same _ _ r (derived_as ranks limit e _ over refl) (tells_first _ _ r h)

  pub derived_reaches : (ranks : List Ranked) (limit : ℕ) (e : Sides) (more : List Numbered) (f : Draft)
      → IsOver t ranks limit p
      → derived_in ranks limit e d.next_derived (worked_level d.current) ≡ Ok (worked_level f.current)
      → Grows store more → Extends d.builder f.builder
      → f.current ≡ record d.current { facts = f.current.facts; goal = f.current.goal }
      → IsReady more f.builder f.current → f.checking ≡ d.checking → f.waiting.items ≡ d.waiting.items
      → f.next_hypothesis ≡ d.next_hypothesis → f.next_derived ≡ d.next_derived + 1 → f.is_proved ≡ d.is_proved
      → below_in f ≡ below_in d → Reaches t s more f p (derive e p)
  derived_reaches ranks limit e more f over made g x rest ready checking waits hypothesis derived undone lower = (
    proof_with (facts_of f.current.facts) (term_of f.current.goal.term) (p.next_derived + 1) p,
    (
      derived_as ranks limit e (Ok (worked_level f.current)) over made,
      (
        with_alike (facts_of f.current.facts) (term_of f.current.goal.term) (p.next_derived + 1) p,
        (
          ks,
          (
            kept_worked f.current k,
            stands_worked more f (p.next_derived + 1) g x rest ready checking waits hypothesis
                (derived ∙ ap (λ m. m + 1) w.counts.1.1.1) undone lower,
          ),
        ),
      ),
    ),
  )
