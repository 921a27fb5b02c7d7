-- A level for a formula is put upon the current one, and its goal is in normal form.
use Rattle.std.specs.Prelude.{◌≡◌, ℕ, List, [], ◌∷◌, ◌++◌, map, reverse, All, Contains, IfSome, None, Vec, Result, Ok}
use Rattle.std.specs.Prelude.{refl}
use Rattle.std.specs.declared.alloc.Global.{Global}
use Rattle.std.specs.declared.rc.Rc.{Rc}
use Rattle.std.proofs.Common.{ap, ap₂, arith, subst, sym, ◌∙◌}
use Rattle.std.proofs.lemmas.List.{reverse-append}
use Rattle.std.proofs.lemmas.List.Elements.{All-cons, All-nil}
use Rattle.larch_base.specs.declared.code.Code.{Code}
use Rattle.larch_derive.proofs.Growth.{extends_grows}
use Rattle.larch_derive.specs.Builder.{boxes_in}
use Rattle.larch_derive.specs.OpenBox.{constant_of}
use Rattle.larch_derive.specs.Predicates.{Extends}
use Rattle.larch_derive.specs.declared.builder.Builder.{Builder}
use Rattle.larch_prove_settings.specs.OrderPrecedenceRanked.{Ranked}
use Rattle.larch_prove_settling.specs.ProveAddingKeptFacts.{facts_of, lines_of}
use Rattle.larch_prove_settling.specs.ProveBoxesBoxLists.{box_list}
use Rattle.larch_prove_settling.proofs.ProveDraftAlike.{over_alike}
use Rattle.larch_prove_settling.proofs.ProveDraftStanding.{below_on, stored_on}
use Rattle.larch_prove_settling.specs.ProveDraftDraft.{AreBelow, IsAlike, Stands, below_in}
use Rattle.larch_prove_settling.specs.ProveDraftProving.{IsOver}
use Rattle.larch_prove_settling.specs.ProveDraftDraftDraft.{Draft}
use Rattle.larch_prove_settling.proofs.ProveInvariantLevelConstants.{levels_entered}
use Rattle.larch_prove_settling.specs.ProveInvariantBook.{Book, Kept, Running, SupposingBox}
use Rattle.larch_prove_settling.specs.ProveInvariantHolding.{AreOwn, HoldsLevels}
use Rattle.larch_prove_settling.proofs.ProveLevelsTelling.{tells_first, tells_same}
use Rattle.larch_prove_settling.specs.ProveLevelsLevel.{IsKept, IsReady, IsStored, RunsLikeAny, purpose_of}
use Rattle.larch_prove_settling.specs.ProveLevelsSupposing.{TellsCode}
use Rattle.larch_prove_settling.specs.ProveLevelsLevelLevel.{Level}
use Rattle.larch_prove_settings.specs.ProveMeaningFacts.{Facts, rules_of}
use Rattle.larch_prove_settings.specs.ProveMeaningLevels as defined
use Rattle.larch_prove_settings.specs.ProveMeaningLevels.{OfProof, Proof, all_constants}
use Rattle.larch_prove_settings.specs.ProveMeaningLevels.{normal_goal, settle_goal, with_goal}
use Rattle.larch_prove_settings.specs.ProveMeaningLevels.{work_result}
use Rattle.larch_prove_settings.specs.ProveMeaningSteps.{level_opened}
use Rattle.larch_prove_settling.proofs.EntersUpon.{level_says}
use Rattle.larch_prove_settling.specs.Rising.{IsSomeStanding}
use Rattle.larch_prove_work.specs.Formula.{IsForFormula, IsWritten, formula_level, with_formula}
use Rattle.larch_prove_settling.specs.RewriteRefusalRewriteRefusal.{RewriteRefusal}
use Rattle.larch_prove_settings.specs.RewriteMeaningNormalForm.{normal}
use Rattle.larch_store.specs.Numbered.{Numbered, term_of}
use Rattle.larch_store.specs.Stored.{Belongs, Grows}
use Rattle.larch_term.specs.BuiltIn.{bool_sort}
use Rattle.larch_term.specs.Operator.{PlainOperator}
use Rattle.larch_term.specs.Sorts.{sort_of}
use Rattle.larch_term.specs.Tree.{Tree}
use Rattle.larch_term.specs.declared.statement.Statement.{Statement}
use Rattle.larch_term.specs.declared.statement.Theory.{Theory}
use Rattle.larch_base_meaning.specs.Steps.{after}

none_own : (b : Builder) → AreOwn b []
none_own b = record {
  constants = All-nil (λ (f : PlainOperator). f.domain ≡ []);
  different = λ i j d l m. absurd (omega (arith, m));
  outer = All-nil (λ f. constant_of (boxes_in b) f ≡ None);
}

-- a normal form by the same facts
pub normal_as : (old copied : Facts) (limit : ℕ) (f g : Tree) (answer : Result Tree Code) → copied ≡ old → g ≡ f
    → work_result (normal (rules_of copied.rules) g limit) ≡ answer
    → work_result (normal (rules_of old.rules) f limit) ≡ answer
normal_as old copied limit f g answer same goal h =
    ap₂ (λ (facts : Facts) u. work_result (normal (rules_of facts.rules) u limit)) (sym same) (sym goal) ∙ h

pub refused_as : (old copied : Facts) (limit : ℕ) (f g : Tree) (r : RewriteRefusal) → copied ≡ old → g ≡ f
    → TellsCode (work_result (normal (rules_of copied.rules) g limit)) r
    → TellsCode (work_result (normal (rules_of old.rules) f limit)) r
refused_as old copied limit f g r same goal h =
    tells_same _ _ r (normal_as old copied limit f g _ same goal refl) h

-- the level below is the nearest of those below
below_pushed : (below more : List Level) (l : Level) → more ≡ below ++ l ∷ [] → reverse more ≡ l ∷ reverse below
below_pushed below more l e = ap reverse e ∙ reverse-append below (l ∷ [])

module _ (t : Theory) (s : Statement) (store : List Numbered) (d : Draft) (p : Proof) (ks : List Kept) (f : Tree)
    (way : ℕ) (w : IsWritten t s store d p ks f way) (ranks : List Ranked) (limit : ℕ)
    (over : IsOver t ranks limit p) where
  facts_are : facts_of d.current.facts ≡ p.current.facts
  facts_are = sym w.current.0.facts ∙ ap (λ (l : defined.Level). l.facts) w.level_is

  normal_there : (answer : Result Tree Code)
      → work_result (normal (rules_of (facts_of d.current.facts).rules) f limit) ≡ answer
      → work_result (normal (rules_of p.current.facts.rules) f p.limit) ≡ answer
  normal_there answer h =
      ap₂ (λ (facts : Facts) n. work_result (normal (rules_of facts.rules) f n)) (sym facts_are) over.limit_is ∙ h

  -- a formula whose normal form is refused
  pub level_refused : (r : RewriteRefusal)
      → TellsCode (work_result (normal (rules_of (facts_of d.current.facts).rules) f limit)) r
      → TellsCode (level_opened f p) r
  level_refused r h =
      tells_first (normal_goal (with_formula f p)) settle_goal r
      (tells_first (work_result (normal (rules_of p.current.facts.rules) f p.limit))
      (λ g. Ok (with_goal g (with_formula f p))) r
      (tells_same _ _ r (normal_there _ refl) h))

  -- the proof with the level, whose goal is this
  abbrev pub proof_upon : Tree → Proof
  proof_upon goal = with_goal goal (with_formula f p)

  pub upon_alike : (goal : Tree) → IsAlike p (proof_upon goal)
  upon_alike goal = record {
    theory = refl;
    lemmas = refl;
    scope = refl;
    constants = refl;
    ranks = refl;
    limit = refl;
    commands = refl;
  }

  pub opened_upon : (goal : Tree)
      → work_result (normal (rules_of (facts_of d.current.facts).rules) f limit) ≡ Ok goal
      → level_opened f p ≡ settle_goal (proof_upon goal)
  opened_upon goal h =
      ap (λ r. after (after r (λ g. Ok (with_goal g (with_formula f p)))) settle_goal) (normal_there (Ok goal) h)

  module _ (more : List Numbered) (b : Builder) (v : Vec (Rc Level Global) Global) (level : Level)
      (made : IsForFormula f level) (facts : facts_of level.facts ≡ facts_of d.current.facts)
      (ready : IsReady more b level) (first : Belongs more level.first) (grows : Grows store more)
      (extends : Extends d.builder b) (sort : sort_of f ≡ bool_sort)
      (below : map (λ l. l.value) v.items ≡ map (λ l. l.value) d.below.items ++ d.current ∷ []) where
    -- what is kept of the level
    abbrev pub book_upon : Book
    book_upon = record {
      lines = lines_of level.facts;
      absurd = level.facts.absurd;
      first = term_of level.first;
      way = level.goal.way;
      entrance = [];
      extras = [];
      running = None;
    }

    abbrev pub kept_upon : Kept
    kept_upon = record { level = formula_level f level; book = book_upon }

    current_upon : IsKept level kept_upon
    current_upon = (
      record {
        purpose = sym (ap₂ purpose_of made.purpose made.first);
        facts = refl;
        lines = refl;
        absurd = refl;
        goal = refl;
        way = refl;
        first = refl;
        entrance = ap box_list (sym made.entrance);
        extras = sym made.extras;
        making = All-nil (λ (y : SupposingBox). y.hypotheses ≡ []);
      },
      subst (λ o. RunsLikeAny o None []) (sym made.running) tt,
    )

    level_upon : formula_level f level ≡ (proof_upon (term_of level.goal.term)).current
    level_upon =
        ap (λ (x : Facts). record {
          purpose = OfProof f;
          facts = x;
          goal = term_of level.goal.term;
          remaining = [];
        }) (facts ∙ facts_are)

    below_upon : AreBelow more (d.current ∷ below_in d) p.constants (p.current ∷ p.below) (w.top ∷ ks)
    below_upon =
        let lower = below_on store more (below_in d) p.constants p.below ks grows w.below in
        record {
          kept = (w.current, lower.kept);
          stored = All-cons (IsStored more) d.current (below_in d) (stored_on store more d.current grows w.stored)
              lower.stored;
          levels_are = w.holds.levels_are;
          planned = All-cons
              (λ (k : Kept). IfSome k.book.running (λ r. All (Contains p.constants) (all_constants r.plan))) w.top ks
              (subst (λ o. IfSome o (λ (r : Running). All (Contains p.constants) (all_constants r.plan))) (sym w.idle)
              tt)
              lower.planned;
        }

    held_upon : HoldsLevels t s b p.constants (formula_level f level ∷ p.current ∷ p.below) (kept_upon ∷ w.top ∷ ks)
    held_upon =
        levels_entered t s d.builder b p.constants (p.current ∷ p.below) kept_upon w.top ks
        (record { first = made.first; entrance = refl; idle = w.idle })
        (record { running = refl; remaining = refl }) refl (extends_grows d.builder b extends)
        (level_says b more level kept_upon ready refl refl refl refl refl refl)
        (All-nil (Contains p.constants)) (none_own d.builder) w.holds

    pub stands_upon : Stands t s more (record d { builder = b; current = level; below = v })
        (proof_upon (term_of level.goal.term)) kept_upon (w.top ∷ ks)
    stands_upon = record {
      counts = w.counts;
      undone = w.undone;
      current = current_upon;
      level_is = level_upon;
      idle = refl;
      ready = ready;
      stored = record { goal = ready.goal; first = first; formula = ap sort_of made.first ∙ sort };
      below = subst (λ ls. AreBelow more ls p.constants (p.current ∷ p.below) (w.top ∷ ks))
          (sym (below_pushed (map (λ l. l.value) d.below.items) (map (λ l. l.value) v.items) d.current below))
          below_upon;
      holds = subst (λ l. HoldsLevels t s b p.constants (l ∷ p.current ∷ p.below) (kept_upon ∷ w.top ∷ ks)) level_upon
          held_upon;
    }

    over_upon : IsOver t ranks limit (proof_upon (term_of level.goal.term))
    over_upon =
        over_alike t ranks limit p (proof_upon (term_of level.goal.term)) (upon_alike (term_of level.goal.term)) over

    -- the draft with a level that is this one
    stands_as : (upper : Level) → upper ≡ level
        → Stands t s more (record d { builder = b; current = upper; below = v })
        (proof_upon (term_of level.goal.term)) kept_upon (w.top ∷ ks)
    stands_as upper e =
        subst (λ l. Stands t s more (record d { builder = b; current = l; below = v })
        (proof_upon (term_of level.goal.term)) kept_upon (w.top ∷ ks)) (sym e) stands_upon

    pub some_upon : (upper : Level) → upper ≡ level
        → IsSomeStanding t s ranks limit more (record d { builder = b; current = upper; below = v })
    some_upon upper e =
        (proof_upon (term_of level.goal.term), (kept_upon, (w.top ∷ ks, (over_upon, stands_as upper e))))

    -- what holds of all proofs of which the draft is holds of the one with the level
    pub holds_upon : (P : Proof → Type 0) (upper : Level) → upper ≡ level
        → ((q : Proof) (k : Kept) (js : List Kept) → IsOver t ranks limit q
        → Stands t s more (record d { builder = b; current = upper; below = v }) q k js → P q)
        → P (proof_upon (term_of level.goal.term))
    holds_upon P upper e h =
        h (proof_upon (term_of level.goal.term)) kept_upon (w.top ∷ ks) over_upon (stands_as upper e)
