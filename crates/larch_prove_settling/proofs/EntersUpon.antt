-- A level is entered for the open subgoal of the method that runs on the one below.
use Rattle.std.specs.Prelude.{◌≡◌, ◌⊎◌, ℕ, IsTrue, List, [], ◌∷◌, ◌++◌, map, All, Contains, Option, None, Some, is_some}
use Rattle.std.specs.Prelude.{refl}
use Rattle.std.specs.List.{flat_map}
use Rattle.std.proofs.Common.{ap, arith, inl, inr, subst, sym, ◌∙◌}
use Rattle.std.proofs.lemmas.List.{append-nil}
use Rattle.std.proofs.lemmas.List.Elements.{All-contains, All-nil}
use Rattle.larch_base.proofs.Lists.{all_from}
use Rattle.larch_base.proofs.Members.{contains_flat_map, contains_here, contains_right}
use Rattle.larch_term.specs.Operator.{PlainOperator}
use Rattle.larch_term.specs.declared.statement.Statement.{Statement}
use Rattle.larch_term.specs.declared.statement.Theory.{Theory}
use Rattle.larch_derive.proofs.Growth.{extends_grows}
use Rattle.larch_derive.specs.Builder.{boxes_in}
use Rattle.larch_derive.specs.OpenBox.{constant_of}
use Rattle.larch_derive.specs.Predicates.{Extends, HasEquation}
use Rattle.larch_derive.specs.declared.builder.Builder.{Builder}
use Rattle.larch_prove_draft.proofs.ProveAddingFactLists.{named_said}
use Rattle.larch_prove_draft.specs.ProveAddingKeptFacts.{SaysAbsurd, facts_of, lines_of}
use Rattle.larch_prove_draft.specs.ProveBoxesBoxLists.{box_list}
use Rattle.larch_prove_draft.specs.ProveBoxesEntering.{IsEntrance}
use Rattle.larch_prove_draft.specs.ProveBoxesEnteringEntrance.{Entrance}
use Rattle.larch_prove_draft.proofs.ProveInvariantBlockConstants.{shapes_made}
use Rattle.larch_prove_draft.proofs.ProveInvariantBoxes.{through_grows}
use Rattle.larch_prove_draft.proofs.ProveInvariantHeld.{running_is}
use Rattle.larch_prove_draft.proofs.ProveInvariantLevelConstants.{levels_entered}
use Rattle.larch_prove_draft.specs.ProveInvariantBook.{Book, Done, Kept, Running, SupposingBox, made_in}
use Rattle.larch_prove_draft.specs.ProveInvariantHolding.{AreOwn, HasAbsurd, HasFacts, IsForSubgoal, Runs}
use Rattle.larch_prove_draft.specs.ProveInvariantHolding.{Says, Shape}
use Rattle.larch_prove_draft.specs.ProveInvariantHolding.{Through, entrances, own_shape, shape_of}
use Rattle.larch_prove_draft.specs.ProveLevelsLevel.{IsReady, IsStored, RunsLikeAny, purpose_of}
use Rattle.larch_prove_draft.specs.ProveLevelsLevelLevel.{Level}
use Rattle.larch_prove_draft.specs.ProveLevelsLevelPurpose.TheVariants.{OfSubgoal}
use Rattle.larch_prove_draft.specs.ProveMeaningFacts.{Facts}
use Rattle.larch_prove_draft.specs.ProveMeaningLevels as defined
use Rattle.larch_prove_draft.specs.ProveMeaningLevels.{all_constants}
use Rattle.larch_prove_draft.specs.ProveMeaningPlans as planned
use Rattle.larch_prove_draft.specs.ProveMeaningPlans.{Cases, Conjunction, Contradiction, Implication}
use Rattle.larch_prove_draft.specs.ProveMeaningPlans.{Induction, Partition, Plan}
use Rattle.larch_prove_draft.specs.ProvePlansSubgoalsMethod.{Method}
use Rattle.larch_prove_draft.specs.ProvePlansSubgoalsSubgoal.{Subgoal}
use Rattle.larch_prove_settling.specs.Entered.{Awaits, IsUpon, entered_level}
use Rattle.larch_store.specs.Numbered.{Numbered, term_of}

-- ---- the boxes of subgoals

boxed_or_bare : (method : planned.Method) (g : planned.Subgoal)
    → (entrances method g ≡ own_shape g ∷ []) ⊎ (entrances method g ≡ [])
boxed_or_bare (Cases f) g = inl refl
boxed_or_bare Implication g = inl refl
boxed_or_bare Conjunction g = inr refl
boxed_or_bare Contradiction g = inl refl
boxed_or_bare (Induction n) g = inl refl
boxed_or_bare Partition g = inl refl

-- a subgoal's box makes the subgoal's constants; where there is no box none are made
made_there : (method : planned.Method) (g : planned.Subgoal) (xs : List SupposingBox)
    → map shape_of xs ≡ entrances method g → (made_in xs ≡ g.constants) ⊎ (made_in xs ≡ [])
made_there method g xs e =
    let made : made_in xs ≡ flat_map (λ (h : Shape). h.constants) (entrances method g) =
    shapes_made xs ∙ ap (flat_map (λ (h : Shape). h.constants)) e in
    elim (boxed_or_bare method g) [
      | inl one ↦ inl (made ∙ ap (flat_map (λ (h : Shape). h.constants)) one ∙ append-nil g.constants)
      | inr none ↦ inr (made ∙ ap (flat_map (λ (h : Shape). h.constants)) none)
    ]

none_own : (b : Builder) → AreOwn b []
none_own b = record {
  constants = All-nil (λ (f : PlainOperator). f.domain ≡ []);
  different = λ i j d l m. absurd (omega (arith, m));
  outer = All-nil (λ f. constant_of (boxes_in b) f ≡ None);
}

-- ---- facts

absurd_said : (b : Builder) (o : Option ℕ) → SaysAbsurd b o → IsTrue (is_some o) → HasAbsurd b o
absurd_said b None h c = absurd (cc)
absurd_said b (Some n) h c = h

-- what a level of the code says
pub level_says : (b : Builder) (store : List Numbered) (level : Level) (k : Kept) → IsReady store b level
    → k.level.facts ≡ facts_of level.facts → k.book.lines ≡ lines_of level.facts → k.book.absurd ≡ level.facts.absurd
    → k.level.goal ≡ term_of level.goal.term → k.book.way ≡ level.goal.way → k.book.first ≡ term_of level.first
    → Says b k
level_says b store level k r facts lines none goal way first = record {
  facts = subst (λ (fs : Facts). HasFacts b fs.rules k.book.lines) (sym facts)
      (subst (HasFacts b (facts_of level.facts).rules) (sym lines) (named_said b level.facts.rules.rules r.said.0.0));
  absurd = λ c. subst (HasAbsurd b) (sym none) (absurd_said b level.facts.absurd r.said.1
      (subst (λ (x : Facts). IsTrue x.contradictory) facts c));
  way = subst (λ n. HasEquation b n k.book.first k.level.goal) (sym way)
      (subst (λ u. HasEquation b level.goal.way u k.level.goal) (sym first)
      (subst (HasEquation b level.goal.way (term_of level.first)) (sym goal) r.way));
}

module _ (t : Theory) (s : Statement) (cs : List PlainOperator) (levels : List defined.Level) (k : Kept)
    (ks : List Kept) (r : Running) (a : Builder) (parent : Level) (method : Method) (subgoal : Subgoal)
    (w : Awaits t s cs levels k ks r a parent method subgoal) where
  runs_there : Runs w.held.held.1.1.1.outside a k.level r
  runs_there = let l = w.held.held.1.1.1 in running_is l.outside a k r w.running l.running

  pub now_there : Contains r.plan.subgoals r.now
  now_there =
      subst (λ gs. Contains gs r.now) (sym runs_there.order)
      (contains_right (map (λ (x : Done). x.subgoal) r.done) (r.now ∷ k.level.remaining) r.now
      (contains_here r.now k.level.remaining))

  pub entered_so : (b c : Builder) (e : Entrance) (store : List Numbered) (level : Level)
      → IsEntrance a b r.method r.now e → Extends b c → level.purpose ≡ OfSubgoal → term_of level.first ≡ r.now.goal
      → level.entrance ≡ e.opened → level.extras ≡ [] → level.running ≡ None → IsReady store c level
      → IsStored store level → IsUpon t s cs levels k ks c store level
  entered_so b c e store level i x purpose first entrance extras running ready stored =
      let book : Book = record {
        lines = lines_of level.facts;
        absurd = level.facts.absurd;
        first = term_of level.first;
        way = level.goal.way;
        entrance = i.boxes;
        extras = [];
        running = None;
      } in
      let entered : Kept = record { level = entered_level level; book = book } in
      let own : made_in (i.boxes ++ []) ≡ made_in i.boxes = ap made_in (append-nil i.boxes) in
      let made = made_there r.method r.now i.boxes i.shapes in
      record {
        entered = entered;
        kept = (
          record {
            purpose = sym (ap (λ u. purpose_of u (term_of level.first)) purpose);
            facts = refl;
            lines = refl;
            absurd = refl;
            goal = refl;
            way = refl;
            first = refl;
            entrance = i.opened ∙ ap box_list (sym entrance);
            extras = sym extras;
            making = All-nil (λ (y : SupposingBox). y.hypotheses ≡ []);
          },
          subst (λ o. RunsLikeAny o None []) (sym running) tt,
        );
        level_is = refl;
        idle = refl;
        held = levels_entered t s a c cs levels entered k ks
            (subst (λ o. IsForSubgoal o book) (sym w.running) (record { first = first; entrance = i.shapes }))
            (record { running = refl; remaining = refl }) refl
            (subst (λ xs. Through a xs c) (sym (append-nil i.boxes))
            (through_grows a b c i.boxes (extends_grows b c x) i.through))
            (level_says c store level entered ready refl refl refl refl refl refl)
            (subst (All (Contains cs)) (sym own) (elim made [
              | inl e ↦ subst (All (Contains cs)) (sym e) (all_from (Contains cs) r.now.constants
                  (λ f i. All-contains (Contains cs) (all_constants r.plan) f w.among
                  (contains_right r.plan.constants _ f (contains_flat_map (λ
                  (h : planned.Subgoal). h.constants) r.plan.subgoals r.now f now_there i))))
              | inr e ↦ subst (All (Contains cs)) (sym e) (All-nil (Contains cs))
            ]))
            (subst (AreOwn a) (sym own) (elim made [
              | inl e ↦ subst (AreOwn a) (sym e) (All-contains (λ (g : planned.Subgoal). AreOwn a g.constants)
                  r.plan.subgoals r.now runs_there.planned.own now_there)
              | inr e ↦ subst (AreOwn a) (sym e) (none_own a)
            ]))
            w.held;
        ready = ready;
        stored = stored;
      }
