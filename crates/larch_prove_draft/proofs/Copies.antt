-- A copy of a level is that level.
use Rattle.std.specs.Prelude.{◌≡◌, Bool, true, false, IsTrue, List, ◌∷◌, Option, None, Some, map, refl, reverse}
use Rattle.std.proofs.Common.{ap, ap₂, subst, sym, ◌∙◌}
use Rattle.larch_prove_levels.specs.DeriveBuilder.{lines_in}
use Rattle.larch_prove_levels.specs.DeriveFinished.{IsFinished}
use Rattle.larch_prove_levels.specs.DerivePredicates.{HasEquation}
use Rattle.larch_prove_levels.specs.DeriveBuilderBuilder.{Builder}
use Rattle.larch_prove_levels.specs.ProveAddingKeptFacts.{AreSaid, facts_of, lines_of}
use Rattle.larch_prove_levels.specs.ProveBoxesBoxLists.{box_list}
use Rattle.larch_prove_levels.specs.ProveBoxesLeave.{left_of}
use Rattle.larch_prove_levels.specs.ProveInvariantBook as kept
use Rattle.larch_prove_levels.specs.ProveInvariantBook.{Kept}
use Rattle.larch_prove_draft.specs.Draft.{AreBelow, Counts, IsProofBy, IsProofOf, Stands}
use Rattle.larch_prove_draft.specs.declared.draft.Draft.{Draft}
use Rattle.larch_prove_levels.proofs.ProveInvariantHeld.{current_said}
use Rattle.larch_prove_levels.specs.ProveInvariantHolding.{HasAbsurd, HasFacts, Holds, HoldsLevels, Says}
use Rattle.larch_prove_levels.specs.Level.{AreSameMethods, IsCopy, IsKept, IsLevel, IsReady, IsStored, RunsLikeAny}
use Rattle.larch_prove_levels.specs.Level.{purpose_of}
use Rattle.larch_prove_levels.specs.declared.level.Level.{Level}
use Rattle.larch_prove_levels.specs.declared.level.Running.{Running}
use Rattle.larch_prove_levels.specs.ProveMeaningFacts.{Facts}
use Rattle.larch_prove_levels.specs.ProveMeaningLevels.{Proof}
use Rattle.larch_prove_levels.specs.ProveMeaningPlans.{Subgoal}
use Rattle.larch_prove_levels.specs.ProvePlansPlanning.{method_of}
use Rattle.larch_prove_levels.specs.RewriteRuleSet.{BelongsTo}
use Rattle.larch_store.specs.Numbered.{Numbered, term_of}
use Rattle.larch_store.specs.Stored.{Belongs}
use Rattle.larch_term.specs.BuiltIn.{bool_sort}
use Rattle.larch_term.specs.Sorts.{sort_of}
use Rattle.larch_term.specs.declared.statement.Statement.{Statement}
use Rattle.larch_term.specs.declared.statement.Theory.{Theory}

pub level_copied : (l j : Level) (k : Kept) → IsCopy l j → IsLevel l k → IsLevel j k
level_copied l j k c w = record {
  purpose = w.purpose ∙ ap₂ (λ u x. purpose_of u (term_of x)) (sym c.purpose) (sym c.first);
  facts = w.facts ∙ sym c.facts;
  lines = w.lines ∙ sym c.lines;
  absurd = w.absurd ∙ sym c.absurd;
  goal = w.goal ∙ ap (λ g. term_of g.term) (sym c.goal);
  way = w.way ∙ ap (λ g. g.way) (sym c.goal);
  first = w.first ∙ ap term_of (sym c.first);
  entrance = w.entrance ∙ ap box_list (sym c.entrance);
  extras = w.extras ∙ sym c.extras;
  making = w.making;
}

pub method_copied : (r q : Option Running) (o : Option kept.Running) (waiting : List Subgoal) → AreSameMethods r q
    → RunsLikeAny r o waiting → RunsLikeAny q o waiting
method_copied None None None waiting c w = tt
method_copied None None (Some o) waiting c w = absurd w
method_copied None (Some q) o waiting c w = absurd c
method_copied (Some r) None o waiting c w = absurd c
method_copied (Some r) (Some q) None waiting c w = absurd w
method_copied (Some r) (Some q) (Some o) waiting c w = record {
  method = w.method ∙ ap (λ p. method_of p.method) (sym c.planned);
  plan = w.plan ∙ ap (λ p. p.plan) (sym c.planned);
  shared = w.shared ∙ ap box_list (sym c.shared);
  left = w.left ∙ ap (map left_of) (sym c.left);
}

pub kept_copied : (l j : Level) (k : Kept) → IsCopy l j → IsKept l k → IsKept j k
kept_copied l j k c w =
    (level_copied l j k c w.0, method_copied l.running j.running k.book.running k.level.remaining c.running w.1)

pub stored_copied : (store : List Numbered) (l j : Level) → IsCopy l j → IsStored store l → IsStored store j
stored_copied store l j c w = record {
  goal = subst (λ g. Belongs store g.term) (sym c.goal) w.goal;
  first = subst (Belongs store) (sym c.first) w.first;
  formula = ap (λ x. sort_of (term_of x)) c.first ∙ w.formula;
}

-- what is said of a level makes a copy of it ready
pub copy_ready : (store : List Numbered) (b : Builder) (l j : Level) (on : Kept) → IsCopy l j
    → ((u : List Numbered) → BelongsTo u j.facts.rules)
    → ((c : Builder) → HasFacts c (facts_of l.facts).rules (lines_of l.facts)
    → (IsTrue (facts_of l.facts).contradictory → HasAbsurd c l.facts.absurd) → AreSaid c j.facts)
    → IsKept l on → IsStored store l → Says b on → IsReady store b j
copy_ready store b l j on same kept said k st says = record {
  goal = (stored_copied store l j same st).goal;
  kept = kept store;
  said = said b
      (subst (λ (facts : Facts). HasFacts b facts.rules (lines_of l.facts)) k.0.facts
      (subst (HasFacts b on.level.facts.rules) k.0.lines says.facts))
      (λ c. subst (HasAbsurd b) k.0.absurd
      (says.absurd (subst (λ (facts : Facts). IsTrue facts.contradictory) (sym k.0.facts) c)));
  way = subst (λ n. HasEquation b n (term_of j.first) (term_of j.goal.term))
      (k.0.way ∙ ap (λ g. g.way) (sym same.goal))
      (subst (λ u. HasEquation b on.book.way u (term_of j.goal.term)) (k.0.first ∙ ap term_of (sym same.first))
      (subst (HasEquation b on.book.way on.book.first) (k.0.goal ∙ ap (λ g. term_of g.term) (sym same.goal))
      says.way));
}

-- a copy of a draft is a draft of the same proofs
module _ (t : Theory) (s : Statement) (store : List Numbered) (d e : Draft) (p : Proof)
    (builder : e.builder ≡ d.builder) (same : IsCopy d.current e.current)
    (kept : (u : List Numbered) → BelongsTo u e.current.facts.rules)
    (said : (c : Builder) → HasFacts c (facts_of d.current.facts).rules (lines_of d.current.facts)
    → (IsTrue (facts_of d.current.facts).contradictory → HasAbsurd c d.current.facts.absurd)
    → AreSaid c e.current.facts)
    (below : map (λ l. l.value) e.below.items ≡ map (λ l. l.value) d.below.items) (proved : e.is_proved ≡ d.is_proved)
    (checking : e.checking ≡ d.checking) (waiting : e.waiting.items ≡ d.waiting.items)
    (hypothesis : e.next_hypothesis ≡ d.next_hypothesis) (derived : e.next_derived ≡ d.next_derived) where
  counts_copied : Counts d p → Counts e p
  counts_copied c = (checking ∙ c.0, (waiting ∙ c.1.0, (hypothesis ∙ c.1.1.0, derived ∙ c.1.1.1)))

  stands_copied : (k : Kept) (ks : List Kept) → Stands t s store d p k ks → Stands t s store e p k ks
  stands_copied k ks w = record {
    counts = counts_copied w.counts;
    undone = (proved ∙ w.undone.0, w.undone.1);
    current = kept_copied d.current e.current k same w.current;
    level_is = w.level_is;
    idle = w.idle;
    ready = copy_ready store e.builder d.current e.current k same kept said w.current w.stored
        (current_said t s e.builder k ks (subst (λ b. Holds t s b (k ∷ ks)) (sym builder) w.holds.held));
    stored = stored_copied store d.current e.current same w.stored;
    below = subst (λ ls. AreBelow store (reverse ls) p.constants p.below ks) (sym below) w.below;
    holds = subst (λ b. HoldsLevels t s b p.constants (p.current ∷ p.below) (k ∷ ks)) (sym builder) w.holds;
  }

  copied_by : (b : Bool) → IsProofBy b t s store d p → IsProofBy b t s store e p
  copied_by true w = record {
    counts = counts_copied w.counts;
    proved = (proved ∙ w.proved.0, w.proved.1);
    finished = subst (λ b. IsFinished t s (lines_in b)) (sym builder) w.finished;
  }
  copied_by false w = (w.0, (w.1.0, stands_copied w.0 w.1.0 w.1.1))

  pub proof_copied : IsProofOf t s store d p → IsProofOf t s store e p
  proof_copied w = copied_by p.is_proved w
