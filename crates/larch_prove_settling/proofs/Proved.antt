-- A formula that a command proved is added to the level beloz.rises.
use Rattle.std.specs.Prelude.{◌≡◌, ℕ, true, false, List, [], ◌∷◌, None}
use Rattle.std.specs.Prelude.{◌+◌, Result, Ok, drop, refl}
use Rattle.std.proofs.Common.{ap, ap₂, subst, sym, ◌∙◌}
use Rattle.larch_base.specs.declared.code.Code.{Code}
use Rattle.larch_derive.proofs.Growth.{extends_grows}
use Rattle.larch_derive.specs.Predicates.{Extends, HasEquation}
use Rattle.larch_derive.specs.declared.builder.Builder.{Builder}
use Rattle.larch_prove_draft.specs.ProveAddingKeptFacts.{facts_of, lines_of}
use Rattle.larch_prove_draft.proofs.Standing.{below_on, stored_on}
use Rattle.larch_prove_draft.specs.ProveBoxesBoxLists.{box_list}
use Rattle.larch_prove_draft.specs.Draft.{AreBelow, IsAlike, Stands, below_in}
use Rattle.larch_prove_draft.specs.Proving.{IsOver}
use Rattle.larch_prove_draft.specs.declared.draft.Draft.{Draft}
use Rattle.larch_prove_draft.proofs.ProveInvariantHeld.{current_said}
use Rattle.larch_prove_draft.proofs.ProveInvariantLevelConstants.{levels_left, levels_worked}
use Rattle.larch_prove_draft.specs.ProveInvariantBook.{IsWorkedOn, Kept}
use Rattle.larch_prove_draft.specs.ProveInvariantHolding.{Enters, EntersProof, HoldsLevels, RunsIfAny, Says}
use Rattle.larch_prove_draft.specs.ProveInvariantLeaving.{Leaving}
use Rattle.larch_prove_draft.proofs.ProveLevelsRises.{derive_by}
use Rattle.larch_prove_draft.specs.ProveLevelsDerived.{Worked, derived_in, if_settled, with_derived}
use Rattle.larch_prove_draft.specs.ProveLevelsLevel.{IsReady, IsStored, RunsLikeAny, purpose_of}
use Rattle.larch_prove_draft.proofs.ProveLevelsTelling.{tells_first, tells_same}
use Rattle.larch_prove_draft.specs.ProveLevelsSupposing.{TellsCode}
use Rattle.larch_prove_draft.specs.ProveLevelsLevelLevel.{Level}
use Rattle.larch_prove_draft.specs.ProveMeaningLevels as defined
use Rattle.larch_prove_draft.specs.ProveMeaningLevels.{Proof, is_settled, rise}
use Rattle.larch_prove_draft.specs.ProveMeaningPlans.{holds}
use Rattle.larch_prove_settling.proofs.EntersUpon.{level_says}
use Rattle.larch_prove_settling.proofs.MethodEnds.{below_tail}
use Rattle.larch_prove_settling.specs.Rising.{RisesForFormula, derived_below}
use Rattle.larch_prove_draft.specs.OrderPrecedenceRanked.{Ranked}
use Rattle.larch_prove_draft.specs.RewriteRefusalRewriteRefusal.{RewriteRefusal}
use Rattle.larch_prove_draft.specs.RewriteMeaningSides.{Sides}
use Rattle.larch_store.specs.Numbered.{Numbered, term_of}
use Rattle.larch_store.specs.Stored.{Belongs, Grows}
use Rattle.larch_term.specs.Sorts.{sort_of}
use Rattle.larch_term.specs.Tree.{Tree}
use Rattle.larch_term.specs.Truth.{truth}
use Rattle.larch_term.specs.declared.statement.Statement.{Statement}
use Rattle.larch_term.specs.declared.statement.Theory.{Theory}
use Rattle.larch_base_meaning.specs.Steps.{after}

-- facts and goal of a level of the code
abbrev pub worked_level : Level → Worked
worked_level l = record { facts = facts_of l.facts; goal = term_of l.goal.term }

-- what is derived goes on by whether the level is proved then
proof_by : (f : Tree) (parent : defined.Level) (below : List defined.Level) (p : Proof) (made : Worked)
    → derived_in p.ranks p.limit (holds f) p.next_derived
    (record { facts = parent.facts; goal = parent.goal }) ≡ Ok made
    → derived_below f parent below p
    ≡ if_settled (λ q. rise below q.current q) (with_derived made (record p { current = parent; below = below }))
proof_by f parent below p made e =
    ap (λ r. after r (if_settled (λ q. rise below q.current q)))
    (derive_by (holds f) (record p { current = parent; below = below })
    ∙ ap (λ r. after r (λ w. Ok (with_derived w (record p { current = parent; below = below })))) e)

settled_then : (next : defined.Next) (q : Proof) → is_settled q.current ≡ true → if_settled next q ≡ next q
settled_then next q e = ap (λ b. elim b [
  | true ↦ next q
  | false ↦ Ok q
]) e

unsettled_then : (next : defined.Next) (q : Proof) → is_settled q.current ≡ false → if_settled next q ≡ Ok q
unsettled_then next q e = ap (λ b. elim b [
  | true ↦ next q
  | false ↦ Ok q
]) e

-- a level that was worked on is stored
pub worked_stored : (store more : List Numbered) (b : Builder) (l j : Level) → Grows store more
    → j ≡ record l { facts = j.facts; goal = j.goal } → IsReady more b j → IsStored store l → IsStored more j
worked_stored store more b l j g rest ready w =
    let first : j.first ≡ l.first = ap (λ (x : Level). x.first) rest in
    record {
      goal = ready.goal;
      first = subst (Belongs more) (sym first) (stored_on store more l g w).first;
      formula = ap (λ x. sort_of (term_of x)) first ∙ w.formula;
    }

-- the same derived of the same
pub same_derived : (ranks rs : List Ranked) (limit m : ℕ) (e f : Sides) (n k : ℕ) (l j : Worked)
    (answer : Result Worked Code) → rs ≡ ranks → m ≡ limit → f ≡ e → k ≡ n → j ≡ l
    → derived_in ranks limit e n l ≡ answer → derived_in rs m f k j ≡ answer
same_derived ranks rs limit m e f n k l j answer p q h r w d =
    ap (λ x. derived_in x m f k j) p ∙ ap (λ x. derived_in ranks x f k j) q
    ∙ ap (λ x. derived_in ranks limit x k j) h ∙ ap (λ x. derived_in ranks limit e x j) r
    ∙ ap (derived_in ranks limit e n) w ∙ d

-- what refuses the adding refuses what it comes to
pub derived_refused : (f : Tree) (parent : defined.Level) (below : List defined.Level) (p : Proof) (r : RewriteRefusal)
    → TellsCode (derived_in p.ranks p.limit (holds f) p.next_derived
    (record { facts = parent.facts; goal = parent.goal })) r
    → TellsCode (derived_below f parent below p) r
derived_refused f parent below p r h =
    tells_first (defined.derive (holds f) (record p { current = parent; below = below }))
    (if_settled (λ q. rise below q.current q)) r
    (tells_same _ _ r (derive_by (holds f) (record p { current = parent; below = below })) (tells_first _ _ r h))

module _ (t : Theory) (s : Statement) (store : List Numbered) (d : Draft) (p : Proof) (below : List defined.Level)
    (parent level : defined.Level) (formula : Tree) (line : ℕ)
    (z : RisesForFormula t s store d p below parent level formula line) where
  enters : EntersProof formula z.rises.on.book.running z.rises.top.book
  enters = subst (λ u. Enters u z.rises.on.book.running z.rises.top.book) z.purpose z.rises.before.held.1.1.0

  held_below : HoldsLevels t s d.builder p.constants (parent ∷ below) (z.rises.on ∷ z.rises.others)
  held_below =
      subst (λ ls. HoldsLevels t s d.builder p.constants ls (z.rises.on ∷ z.rises.others)) z.rises.under.levels_are
      (levels_left t s z.rises.earlier d.builder p.constants
      (level ∷ parent ∷ below) z.rises.top z.rises.on z.rises.others
      (subst (λ xs. Leaving t s d.builder xs (z.rises.on ∷ z.rises.others)) enters.entrance z.rises.leaving)
      z.rises.before)

  pub ready_below : IsReady store d.builder d.current
  ready_below = z.rises.ready d.builder (current_said t s d.builder z.rises.on z.rises.others held_below.held)

  pub formula_said : HasEquation d.builder line formula truth
  formula_said = subst (λ u. HasEquation d.builder line u truth) enters.first z.rises.says

  nothing_waits : z.rises.on.level.remaining ≡ []
  nothing_waits =
      let h = held_below.held.1.1.1 in
      subst (λ o. RunsIfAny h.outside d.builder z.rises.on.level o) enters.idle h.running

  module _ (more : List Numbered) (e : Draft) where
    abbrev pub made_proof : Proof
    made_proof = with_derived (worked_level e.current) (record p { current = parent; below = below })

    -- the level below as it was worked on
    abbrev pub worked_on : Kept
    worked_on = record {
      level = record z.rises.on.level { facts = facts_of e.current.facts; goal = term_of e.current.goal.term };
      book = record z.rises.on.book {
        lines = lines_of e.current.facts;
        absurd = e.current.facts.absurd;
        way = e.current.goal.way;
      };
    }

    pub made_stands : Grows store more → Extends d.builder e.builder
        → e.current ≡ record d.current { facts = e.current.facts; goal = e.current.goal }
        → IsReady more e.builder e.current → e.checking ≡ d.checking
        → e.waiting.items ≡ d.waiting.items
        → e.next_hypothesis ≡ d.next_hypothesis → e.next_derived ≡ d.next_derived + 1
        → e.is_proved ≡ d.is_proved → below_in e ≡ below_in d
        → Stands t s more e made_proof worked_on z.rises.others
    made_stands g x rest ready checking waits hypothesis derived undone lower =
        let rests : (z.rises.on.book.running ≡ None) × (z.rises.on.level.remaining ≡ []) =
        (enters.idle, nothing_waits) in
        let first : e.current.first ≡ d.current.first = ap (λ (l : Level). l.first) rest in
        let worked : IsWorkedOn z.rises.on worked_on = record {
          purpose = refl;
          first = refl;
          entrance = refl;
          extras = refl;
          before = record { running = rests.0; remaining = rests.1 };
          behind = record { running = rests.0; remaining = rests.1 };
        } in
        let says : Says e.builder worked_on =
        level_says e.builder more e.current worked_on ready refl refl refl refl refl
        (z.rises.current.0.first ∙ ap term_of (sym first)) in
        record {
          counts = (
            checking ∙ z.rises.counts.0,
            (
              waits ∙ z.rises.counts.1.0,
              (hypothesis ∙ z.rises.counts.1.1.0, derived ∙ ap (λ n. n + 1) z.rises.counts.1.1.1),
            ),
          );
          undone = (undone ∙ z.rises.undone.0, z.rises.undone.1);
          current = (
            record {
              purpose = z.rises.current.0.purpose
                  ∙ ap₂ (λ u x. purpose_of u (term_of x)) (ap (λ (l : Level). l.purpose) (sym rest)) (sym first);
              facts = refl;
              lines = refl;
              absurd = refl;
              goal = refl;
              way = refl;
              first = z.rises.current.0.first ∙ ap term_of (sym first);
              entrance = z.rises.current.0.entrance ∙ ap (λ (l : Level). box_list l.entrance) (sym rest);
              extras = z.rises.current.0.extras ∙ ap (λ (l : Level). l.extras) (sym rest);
              making = z.rises.current.0.making;
            },
            subst (λ o. RunsLikeAny o z.rises.on.book.running z.rises.on.level.remaining) (ap (λ
                (l : Level). l.running) (sym rest))
                z.rises.current.1,
          );
          level_is = ap (λ (l : defined.Level). record l {
            facts = facts_of e.current.facts;
            goal = term_of e.current.goal.term;
          }) z.rises.parent_is;
          idle = rests.0;
          ready = ready;
          stored = worked_stored store more e.builder d.current e.current g rest ready z.rises.stored;
          below = subst (λ ls. AreBelow more ls p.constants below z.rises.others) (sym lower)
              (below_on store more (below_in d) p.constants below z.rises.others g
              (below_tail store d.current (below_in d) p.constants parent below z.rises.on z.rises.others
              z.rises.under));
          holds = subst (λ ls. HoldsLevels t s e.builder p.constants ls (worked_on ∷ z.rises.others))
              (ap₂ (λ (l : defined.Level) (ls : List defined.Level). record l {
                facts = facts_of e.current.facts;
                goal = term_of e.current.goal.term;
              } ∷ ls) z.rises.parent_is (ap (drop 1) z.rises.under.levels_are))
              (levels_worked t s d.builder e.builder p.constants (parent ∷ below) z.rises.on worked_on z.rises.others
              (extends_grows d.builder e.builder x) worked says held_below);
        }

    pub made_alike : IsAlike p made_proof
    made_alike = record {
      theory = refl;
      lemmas = refl;
      scope = refl;
      constants = refl;
      ranks = refl;
      limit = refl;
      commands = refl;
    }

    module _ (made : derived_in p.ranks p.limit (holds formula) p.next_derived
        (record { facts = parent.facts; goal = parent.goal }) ≡ Ok (worked_level e.current)) where
      pub made_stays : is_settled made_proof.current ≡ false → derived_below formula parent below p ≡ Ok made_proof
      made_stays h =
          proof_by formula parent below p (worked_level e.current) made
          ∙ unsettled_then (λ q. rise below q.current q) made_proof h

      pub made_rises : is_settled made_proof.current ≡ true
          → derived_below formula parent below p ≡ rise made_proof.below made_proof.current made_proof
      made_rises h =
          proof_by formula parent below p (worked_level e.current) made
          ∙ settled_then (λ q. rise below q.current q) made_proof h

  -- what the level below derives, by what the code derives there
  pub derived_as : (ranks : List Ranked) (limit : ℕ) (e : Sides) (answer : Result Worked Code)
      → IsOver t ranks limit p → e ≡ holds formula
      → derived_in ranks limit e d.next_derived (worked_level d.current) ≡ answer
      → derived_in p.ranks p.limit (holds formula) p.next_derived (record { facts = parent.facts; goal = parent.goal })
      ≡ answer
  derived_as ranks limit e answer o same h =
      same_derived ranks p.ranks limit p.limit e (holds formula) d.next_derived p.next_derived (worked_level d.current)
      (record { facts = parent.facts; goal = parent.goal }) answer o.ranks_are o.limit_is (sym same)
      (sym z.rises.counts.1.1.1)
      (ap (λ (l : defined.Level). record { facts = l.facts; goal = l.goal }) (sym z.rises.parent_is)
      ∙ ap₂ (λ facts goal. record { facts = facts; goal = goal }) z.rises.current.0.facts z.rises.current.0.goal)
      h

  pub tells_as : (ranks : List Ranked) (limit : ℕ) (e : Sides) (r : RewriteRefusal) → IsOver t ranks limit p
      → e ≡ holds formula → TellsCode (derived_in ranks limit e d.next_derived (worked_level d.current)) r
      → TellsCode (derived_in p.ranks p.limit (holds formula) p.next_derived
      (record { facts = parent.facts; goal = parent.goal })) r
  tells_as ranks limit e r o same h = tells_same _ _ r (derived_as ranks limit e _ o same refl) h
