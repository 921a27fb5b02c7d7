-- The lowest level of a duty, and the draft with which its proof begins.
use Rattle.std.specs.Prelude.{◌≡◌, ℕ, IsTrue, is_some, List, [], ◌∷◌, All, map, reverse, Option, None}
use Rattle.std.specs.Prelude.{Err, IfOk, Some, Result, Ok, refl}
use Rattle.std.proofs.Common.{ap, subst, sym, ◌∙◌}
use Rattle.std.proofs.lemmas.List.{append-nil}
use Rattle.std.proofs.lemmas.List.Elements.{All-append, All-map, All-nil}
use Rattle.larch_base.proofs.Members.{contains_left, contains_map}
use Rattle.larch_base.specs.declared.code.Code.{Code}
use Rattle.larch_calculus.specs.Formula.{falsity}
use Rattle.larch_calculus.specs.Theories.{AreNew}
use Rattle.larch_derive.proofs.Growth.{extends_grows}
use Rattle.larch_derive.specs.Predicates.{HasEquation, HasNoBadLine}
use Rattle.larch_derive.specs.Builder.{IsEmpty}
use Rattle.larch_derive.specs.Words.{AreWordedOperators}
use Rattle.larch_derive.specs.declared.builder.Builder.{Builder}
use Rattle.larch_order.specs.declared.precedence.Ranked.{Ranked}
use Rattle.larch_prove_opening.proofs.ProveAddingFactLists.{named_said}
use Rattle.larch_prove_opening.specs.ProveAddingKeptFacts.{AreSaid, KeptFacts, SaysAbsurd, facts_of, lines_of}
use Rattle.larch_prove_beginning.specs.Beginning.{CanBegin, duty_in}
use Rattle.larch_prove_beginning.specs.Goal.{IsPosed, MayPose, goal_of, taken_by}
use Rattle.larch_prove_beginning.specs.Level.{HasAll, level_by, opened_in}
use Rattle.larch_prove_beginning.specs.Opening.{IsDraftOf, IsLevelOf, IsStarted, first_opened, first_proof, opened_with}
use Rattle.larch_prove_beginning.specs.Opening.{posed_in, ranks_with}
use Rattle.larch_prove_beginning.specs.declared.duty.FirstDraft.{FirstDraft}
use Rattle.larch_prove_beginning.specs.declared.duty.Preamble.{Preamble}
use Rattle.larch_prove_beginning.specs.declared.duty.WholeDuty.{WholeDuty}
use Rattle.larch_prove_beginning.specs.declared.goal.FirstGoal.{FirstGoal}
use Rattle.larch_prove_beginning.specs.declared.level.GoalLevel.{GoalLevel}
use Rattle.larch_prove_settling.specs.ProveBoxesBoxLists.{box_list}
use Rattle.larch_prove_settling.specs.ProveDraftDraft.{AreBelow, Stands}
use Rattle.larch_prove_settling.specs.ProveDraftProving.{IsProvable}
use Rattle.larch_prove_settling.specs.ProveDraftDraftDraft.{Draft}
use Rattle.larch_prove_opening.proofs.ProveInvariantBoxes.{said_through, through_grows}
use Rattle.larch_prove_opening.proofs.ProveInvariantHeld.{level_entered, zip_kept}
use Rattle.larch_prove_opening.proofs.ProveInvariantLevelConstants.{levels_start}
use Rattle.larch_prove_opening.specs.ProveInvariantBook.{Kept, SupposingBox}
use Rattle.larch_prove_opening.specs.ProveInvariantHolding.{HasAbsurd, HoldsLevels, IsStart, Through}
use Rattle.larch_prove_settling.proofs.ProveLevelsTelling.{tells_first, tells_next, tells_same}
use Rattle.larch_prove_settling.specs.ProveLevelsLevel.{IsKept, IsReady, IsStored, RunsLikeAny, purpose_of}
use Rattle.larch_prove_settling.specs.ProveLevelsOpened.{Opened}
use Rattle.larch_prove_settling.specs.ProveLevelsSupposing.{TellsCode}
use Rattle.larch_prove_settling.specs.ProveLevelsLevelLevel.{Level}
use Rattle.larch_prove_meaning.specs.Facts.{Fact, Facts, no_facts}
use Rattle.larch_prove_meaning.specs.Levels as defined
use Rattle.larch_prove_opening.specs.FirstFacts.{first_facts}
use Rattle.larch_prove_opening.specs.Stating as stating
use Rattle.larch_prove_opening.specs.ProvePlansPlanning.{names_of_operators}
use Rattle.larch_prove_settling.proofs.EntersUpon.{level_says}
use Rattle.larch_prove_opening.specs.RewriteRefusalRewriteRefusal.{RewriteRefusal}
use Rattle.larch_prove_opening.specs.RewriteRefusalRewriteRefusal.TheVariants.{Limit, TooLarge, Memory}
use Rattle.larch_rewrite_meaning.specs.Sides.{Sides}
use Rattle.larch_sorts_meaning.specs.Scope.{Variables}
use Rattle.larch_store.specs.Numbered.{Numbered, term_of}
use Rattle.larch_term.specs.Operator.{PlainOperator, name_bytes}
use Rattle.larch_term.specs.Sorts.{sort_of}
use Rattle.larch_term.specs.Statement.{IsStatementOver}
use Rattle.larch_term.specs.Tree.{Tree}
use Rattle.larch_term.specs.Truth.{truth}
use Rattle.larch_term.specs.declared.statement.Statement.TheVariants.{Equation}
use Rattle.larch_term.specs.declared.statement.Theory.{Theory}
use Rattle.larch_prove_settling.specs.TraitsItemsLaws.{NamesOwn}
use Rattle.larch_base_meaning.specs.Steps.{after}

-- ---- duties

-- a builder without lines is at its start
pub starts_empty : (t : Theory) (b : Builder) → IsEmpty t b → HasNoBadLine b → IsStart t b
starts_empty t b e h = record { theory = e.0; boxes = e.2; stands = h }

module _ (d : WholeDuty) (can : CanBegin d) where
  pub may_pose : (scope : Variables) (a : Builder) → IsStart d.whole.now a
      → MayPose d.whole.now a d.statement.now (taken_by d.whole.now scope)
  may_pose scope a start = record {
    start = start;
    sorted = subst (λ (t : Theory). IsStatementOver t.operators d.statement.now) (sym can.whole)
        can.sorted.statement;
    written = can.written;
    taken_are = λ f c. contains_left (names_of_operators d.whole.now.operators) (map (λ v. v.0) scope)
        (name_bytes f.name) (contains_map (λ (g : PlainOperator). name_bytes g.name) d.whole.now.operators f c);
  }

  -- the names that are taken are those of the duty's theory
  pub posed_there : (scope : Variables) (a b : Builder) (f : FirstGoal)
      → IsPosed d.whole.now a b d.statement.now (goal_of d.statement.now (taken_by d.whole.now scope) scope) f
      → IsPosed d.whole.now a b d.statement.now (posed_in (duty_in d) scope) f
  posed_there scope a b f w =
      subst (λ (t : Theory). IsPosed d.whole.now a b d.statement.now
      (goal_of d.statement.now (taken_by t scope) scope) f) can.whole w

  pub provable : IsProvable d.whole.now d.statement.now
  provable = record {
    theory = subst (λ (t : Theory). All (IsStatementOver t.operators) t.statements) (sym can.whole)
        (All-append (IsStatementOver d.theory.now.operators) d.theory.now.statements _ can.sorted.theory
        (All-map (IsStatementOver d.theory.now.operators) (λ (l : defined.EarlierDuty). l.statement) _
        can.sorted.lemmas));
    statement = subst (λ (t : Theory). IsStatementOver t.operators d.statement.now) (sym can.whole)
        can.sorted.statement;
    named = subst (λ (t : Theory). NamesOwn t.operators d.statement.now) (sym can.whole) can.named;
  }

-- ---- facts in the box of a goal

absurd_inside : (a b : Builder) (xs : List SupposingBox) → Through a xs b → (o : Option ℕ) → SaysAbsurd a o
    → IsTrue (is_some o) → HasAbsurd b o
absurd_inside a b xs m None h c = absurd (cc)
absurd_inside a b xs m (Some n) h c = said_through a b xs n (Equation truth falsity) m h

pub facts_inside : (a b : Builder) (xs : List SupposingBox) (facts : KeptFacts) → Through a xs b → AreSaid a facts
    → HasAll b facts
facts_inside a b xs facts m h = record {
  facts_are = zip_kept (λ (fact : Fact) n. HasEquation a n fact.sides.left fact.sides.right)
      (λ (fact : Fact) n. HasEquation b n fact.sides.left fact.sides.right)
      (λ fact n q. said_through a b xs n (Equation fact.sides.left fact.sides.right) m q)
      (facts_of facts).rules (lines_of facts) (named_said a facts.rules.rules h.0.0);
  absurd = absurd_inside a b xs m facts.absurd h.1;
}

-- ---- what opening comes to

tells_as : {A : Type 0} (r : Result A Code) (x : RewriteRefusal) → stating.TellsCode r x → TellsCode r x
tells_as r Limit h = h
tells_as r TooLarge h = h
tells_as r Memory h = tt

module _ (d : WholeDuty) (scope : Variables) (before : List Ranked) (limit : ℕ) where
  pub facts_refused : (x : RewriteRefusal)
      → stating.TellsCode (first_facts before limit d.theory.now.statements (stating.duties_of d.lemmas.now) no_facts) x
      → TellsCode (first_opened (duty_in d) scope before limit) x
  facts_refused x h =
      tells_first
      (first_facts before limit d.theory.now.statements (stating.duties_of d.lemmas.now) no_facts)
      (opened_with before limit (posed_in (duty_in d) scope)) x (tells_as _ x h)

  module _ (facts : Facts) (made : first_facts before limit d.theory.now.statements
      (stating.duties_of d.lemmas.now) no_facts ≡ Ok facts) (ranks : List Ranked) (hs : List Sides) (first : Tree)
      (ranks_are : ranks ≡ ranks_with before (posed_in (duty_in d) scope))
      (supposed : hs ≡ (posed_in (duty_in d) scope).supposed) (first_is : first ≡ (posed_in (duty_in d) scope).goal)
    where
      opened_as : opened_with before limit (posed_in (duty_in d) scope) facts ≡ level_by ranks limit facts hs first
      opened_as = λ i. level_by (sym ranks_are i) limit facts (sym supposed i) (sym first_is i)

      pub level_opens : (o : Opened) → level_by ranks limit facts hs first ≡ Ok o
          → first_opened (duty_in d) scope before limit ≡ Ok o
      level_opens o h = ap (λ w. after w (opened_with before limit (posed_in (duty_in d) scope))) made ∙ (opened_as ∙ h)

      pub level_refused : (x : RewriteRefusal) → TellsCode (level_by ranks limit facts hs first) x
          → TellsCode (first_opened (duty_in d) scope before limit) x
      level_refused x h =
          tells_next
          (first_facts before limit d.theory.now.statements (stating.duties_of d.lemmas.now) no_facts) facts
          (opened_with before limit (posed_in (duty_in d) scope)) x made (tells_same _ _ x opened_as h)

-- ---- answers

pub answered_by : {A E : Type 0} (P Q R S T : A → Type 0) (r : Result A E) → ((x : A) → P x → Q x → R x → S x → T x)
    → IfOk r P → IfOk r Q → IfOk r R → IfOk r S → IfOk r T
answered_by P Q R S T (Ok x) f p q r s = f x p q r s
answered_by P Q R S T (Err e) f p q r s = tt

-- ---- the draft

-- what is kept of a level that was entered in these boxes
abbrev kept_of : Level → List SupposingBox → Kept
kept_of level boxes = record {
  level = record {
    purpose = defined.OfDuty;
    facts = facts_of level.facts;
    goal = term_of level.goal.term;
    remaining = [];
  };
  book = record {
    lines = lines_of level.facts;
    absurd = level.facts.absurd;
    first = term_of level.first;
    way = level.goal.way;
    entrance = boxes;
    extras = [];
    running = None;
  };
}

none_below : (store : List Numbered) (ls : List Level) (cs : List PlainOperator) → ls ≡ [] → AreBelow store ls cs [] []
none_below store ls cs e =
    subst (λ ms. AreBelow store ms cs [] []) (sym e) (record {
      kept = tt;
      stored = All-nil (IsStored store);
      levels_are = refl;
      planned = All-nil _;
    })

module _ (d : WholeDuty) (m : Preamble) (before ranks : List Ranked) (store : List Numbered) (b : Builder)
    (l : GoalLevel) (w : IsLevelOf d m before ranks store b l) where
  holds_there : HoldsLevels d.whole.now d.statement.now b (posed_in (duty_in d) m.scope.now).constants
      ((kept_of l.first.level w.posed_so.begun.boxes).level ∷ []) (kept_of l.first.level w.posed_so.begun.boxes ∷ [])
  holds_there =
      let p = w.posed_so in
      let k = kept_of l.first.level p.begun.boxes in
      let grown = through_grows w.outside w.inside b p.begun.boxes (extends_grows w.inside b w.further)
      p.begun.through in
      subst (λ cs. HoldsLevels d.whole.now d.statement.now b cs (k.level ∷ []) (k ∷ [])) p.made
      (levels_start d.whole.now d.statement.now b k (record { running = refl; remaining = refl }) refl
      (subst (AreNew d.whole.now) (sym p.made) p.new) (subst AreWordedOperators (sym p.made) p.words)
      (level_entered d.whole.now d.statement.now w.outside b k [] w.start
      (refl, p.begun.begins k.book w.level.first refl) (record { running = refl; remaining = refl }) refl
      (subst (λ xs. Through w.outside xs b) (sym (append-nil p.begun.boxes)) grown)
      (level_says b store l.first.level k w.level.ready refl refl refl refl refl refl)))

  level_kept : IsKept l.first.level (kept_of l.first.level w.posed_so.begun.boxes)
  level_kept = (
    record {
      purpose = ap (λ u. purpose_of u (term_of l.first.level.first)) (sym w.level.purpose);
      facts = refl;
      lines = refl;
      absurd = refl;
      goal = refl;
      way = refl;
      first = refl;
      entrance = w.posed_so.begun.boxes_are ∙ ap box_list (sym w.level.entrance);
      extras = sym w.level.extras;
      making = All-nil (λ (y : SupposingBox). y.hypotheses ≡ []);
    },
    subst (λ o. RunsLikeAny o None []) (sym w.level.running) tt,
  )

  level_stored : IsStored store l.first.level
  level_stored = record {
    goal = w.level.ready.goal;
    first = w.level.belongs;
    formula = ap sort_of (w.level.first ∙ w.posed_so.first) ∙ w.posed_so.formula;
  }

  -- a draft that was made of it
  pub draft_stands : (f : Draft) → IsDraftOf b l.first m.checking f
      → Stands d.whole.now d.statement.now store f
      (first_proof (duty_in d) m.scope.now before m.limit m.checking (opened_in l.first.level l.first.next))
      (kept_of l.first.level w.posed_so.begun.boxes) []
  draft_stands f i = record {
    counts = (i.checking_is, (i.waiting, (i.hypothesis, i.derived)));
    undone = (i.undone, refl);
    current = subst (λ x. IsKept x (kept_of l.first.level w.posed_so.begun.boxes)) (sym i.current) level_kept;
    level_is = refl;
    idle = refl;
    ready = subst (λ x. IsReady store x f.current) (sym i.builder)
        (subst (IsReady store b) (sym i.current) w.level.ready);
    stored = subst (IsStored store) (sym i.current) level_stored;
    below = none_below store _ _ (ap (λ ls. reverse (map (λ x. x.value) ls)) i.below);
    holds = subst (λ x. HoldsLevels d.whole.now d.statement.now x
        (posed_in (duty_in d) m.scope.now).constants ((kept_of l.first.level w.posed_so.begun.boxes).level ∷ [])
        (kept_of l.first.level w.posed_so.begun.boxes ∷ [])) (sym i.builder) holds_there;
  }

  pub draft_started : (f : FirstDraft) → IsDraftOf b l.first m.checking f.draft → f.constants ≡ l.constants
      → f.scope ≡ l.scope → IsStarted d m before ranks store f
  draft_started f i e s = record {
    opened = opened_in l.first.level l.first.next;
    opens = w.opens;
    kept = kept_of l.first.level w.posed_so.begun.boxes;
    stands = draft_stands f.draft i;
    constants = e ∙ w.constants;
    scope = s ∙ w.scope;
    ranks_are = w.ranks_are;
  }
