-- All subgoals of a method were left, or it has none: the goal of its level is true.
use Rattle.std.specs.Prelude.{◌≡◌, ℕ, List, [], ◌∷◌, ◌++◌, All, Contains, IfSome, drop, map, Option, None, Some, refl}
use Rattle.std.specs.List.{AllZip}
use Rattle.std.proofs.Common.{ap, subst, sym, ◌∙◌}
use Rattle.std.proofs.lemmas.List.{map-append}
use Rattle.std.proofs.lemmas.List.Elements.{All-tail}
use Rattle.larch_derive.proofs.Growth.{extends_grows, extends_refl}
use Rattle.larch_derive.specs.Predicates.{HasEquation}
use Rattle.larch_derive.specs.declared.builder.Builder.{Builder}
use Rattle.larch_derive.specs.declared.open_box.OpenBox.{OpenBox}
use Rattle.larch_prove_draft.specs.ProveBoxesBoxLists.{box_list, boxes_with}
use Rattle.larch_prove_draft.specs.ProveBoxesEnds.{AreLeft}
use Rattle.larch_prove_draft.specs.ProveBoxesLeave.{left_of}
use Rattle.larch_prove_draft.specs.ProveBoxesLeaveLeave.{Leave}
use Rattle.larch_prove_draft.proofs.Alike.{alike_same}
use Rattle.larch_prove_draft.specs.Draft.{AreBelow, Leads, below_in}
use Rattle.larch_prove_draft.specs.declared.draft.Draft.{Draft}
use Rattle.larch_prove_draft.proofs.ProveInvariantLeft.{idle_stands, method_left}
use Rattle.larch_prove_draft.specs.ProveInvariantBook.{Kept, Running, all_left}
use Rattle.larch_prove_draft.specs.ProveInvariantEnding.{HasAllLeft, StandsAt}
use Rattle.larch_prove_draft.specs.ProveInvariantHolding.{HasLeft, IsPlanned, Through}
use Rattle.larch_prove_draft.specs.ProveLevelsLevel.{IsStored, RunsLikeAny}
use Rattle.larch_prove_draft.specs.ProveLevelsLevelLevel.{Level}
use Rattle.larch_prove_draft.specs.ProveLevelsLevelRunning.{Running as RunningHere}
use Rattle.larch_prove_draft.specs.ProveMeaningLevels as defined
use Rattle.larch_prove_draft.specs.ProveMeaningLevels.{Proof, all_constants, rise}
use Rattle.larch_prove_draft.specs.ProveMeaningPlans as planned
use Rattle.larch_prove_draft.specs.ProvePlansPlanning.{method_of}
use Rattle.larch_prove_draft.specs.ProvePlansSubgoalsMethod.{Method}
use Rattle.larch_prove_settling.proofs.Noting.{level_running, stored_running}
use Rattle.larch_prove_settling.specs.Rising.{EndsWith, HasNoSubgoals, IsNoted}
use Rattle.larch_store.specs.Numbered.{Numbered, term_of}
use Rattle.larch_term.specs.Operator.{PlainOperator}
use Rattle.larch_term.specs.Tree.{Tree}
use Rattle.larch_term.specs.Truth.{truth}
use Rattle.larch_term.specs.declared.statement.Statement.{Statement}
use Rattle.larch_term.specs.declared.statement.Theory.{Theory}

-- without the nearest of the levels below
pub below_tail : (store : List Numbered) (l : Level) (ls : List Level) (cs : List PlainOperator) (x : defined.Level)
    (xs : List defined.Level) (k : Kept) (ks : List Kept) → AreBelow store (l ∷ ls) cs (x ∷ xs) (k ∷ ks)
    → AreBelow store ls cs xs ks
below_tail store l ls cs x xs k ks w = record {
  kept = w.kept.1;
  stored = All-tail (IsStored store) l ls w.stored;
  levels_are = ap (drop 1) w.levels_are;
  planned = All-tail (λ (j : Kept). IfSome j.book.running (λ r. All (Contains cs) (all_constants r.plan))) k ks
      w.planned;
}

-- how all subgoals were left, in the code and in the proof
noted_left : (left : Leave) (o : Option RunningHere) (q : RunningHere) (r : Running) (waiting : List planned.Subgoal)
    → IsNoted left o (Some q) → RunsLikeAny o (Some r) waiting
    → (all_left r (left_of left) ≡ map left_of q.left) × (boxes_with r.shared ≡ box_list q.shared)
noted_left left None q r waiting i w = absurd i
noted_left left (Some o) q r waiting i w = (
  ap (λ ls. ls ++ left_of left ∷ []) w.left
      ∙ sym (ap (map left_of) i.left_is ∙ map-append left_of o.left (left ∷ [])),
  w.shared ∙ ap box_list (sym i.shared),
)

-- the same was left
pub are_left_as : (a b : Builder) (m : planned.Method) (g h : Tree) (o q : Option OpenBox) (ls ks : List Leave)
    → g ≡ h → o ≡ q → ls ≡ ks → AreLeft a b m g o ls → AreLeft a b m h q ks
are_left_as a b m g h o q ls ks e d f w =
    subst (λ x. AreLeft a b m x q ks) e
    (subst (λ x. AreLeft a b m g x ks) d (subst (AreLeft a b m g o) f w))

module _ (t : Theory) (s : Statement) (store : List Numbered) (d : Draft) (p : Proof) (below : List defined.Level)
    (parent : defined.Level) (method : Method) (left : Leave)
    (w : EndsWith t s store d p below parent method left) where
  nothing_waits : w.follows.on.level.remaining ≡ []
  nothing_waits = ap (λ (l : defined.Level). l.remaining) w.follows.parent_is ∙ w.remaining

  -- before the method's box was opened a builder stood on the level
  pub stood : (a : Builder) × (StandsAt t s a w.follows.on w.follows.others
      × HasAllLeft a d.builder w.follows.on.level.goal w.follows.running (all_left w.follows.running (left_of left)))
  stood =
      method_left t s d.builder w.follows.on w.follows.others w.follows.running (left_of left) w.follows.held.held
      w.follows.runs nothing_waits w.follows.left_so

  pub are_left : (q : RunningHere) → IsNoted left d.current.running (Some q)
      → AreLeft stood.0 d.builder (method_of method) (term_of d.current.goal.term) q.shared q.left
  are_left q i =
      let f = w.follows in
      let n = noted_left left d.current.running q f.running f.on.level.remaining i
      (subst (λ o. RunsLikeAny d.current.running o f.on.level.remaining) f.runs f.current.1) in
      record {
        running = f.running;
        method_is = f.method_is;
        shared_is = n.1;
        left = subst (HasAllLeft stood.0 d.builder (term_of d.current.goal.term) f.running) n.0
            (subst (λ goal. HasAllLeft stood.0 d.builder goal f.running (all_left f.running (left_of left)))
            f.current.0.goal stood.1.1);
      }

  -- where a line says that its first goal is true, the level is proved
  pub end_leads : (c : Builder) (n : Option RunningHere) (line : ℕ) → StandsAt t s c w.follows.on w.follows.others
      → HasEquation c line w.follows.on.book.first truth
      → Leads t s store (record d { builder = c; current = record d.current { running = n } }) p (Some line)
      (rise below parent p)
  end_leads c n line stands says =
      let f = w.follows in (
        p,
        (
          below,
          (
            parent,
            (
              refl,
              (
                alike_same p,
                record {
                  top = f.on;
                  others = f.others;
                  counts = f.counts;
                  undone = f.undone;
                  current = level_running d.current n f.on f.on.book.running f.on.level.remaining f.current.0;
                  level_is = f.parent_is;
                  stored = stored_running store d.current n f.stored;
                  under = below_tail store d.current (below_in d) p.constants parent below f.on f.others f.under;
                  earlier = d.builder;
                  before = f.held;
                  leaving = stands.leaving;
                  says = says;
                },
              ),
            ),
          ),
        ),
      )

-- A method that has no subgoals ends at once.
module _ (t : Theory) (s : Statement) (store : List Numbered) (d : Draft) (p : Proof) (k : Kept) (ks : List Kept)
    (method : Method) (w : HasNoSubgoals t s store d p k ks method) where
  -- none was left, and the builder stands on the level
  pub none_left : AreLeft d.builder d.builder (method_of method) (term_of d.current.goal.term) None []
  none_left = record {
    running = w.running;
    method_is = w.method_is;
    shared_is = ap boxes_with w.shared;
    left = record {
      planned = subst (λ goal. IsPlanned d.builder d.builder goal w.running) w.stands.current.0.goal w.planned;
      shared = subst (λ xs. Through d.builder xs d.builder) (sym w.shared)
          (extends_grows d.builder d.builder (extends_refl d.builder));
      left = subst (λ gs. AllZip (HasLeft d.builder w.running.method) gs []) (sym w.subgoals) tt;
    };
  }

  pub stood_there : StandsAt t s d.builder k ks
  stood_there = idle_stands t s d.builder k ks w.stands.idle w.stands.holds.held

  pub none_leads : (c : Builder) (line : ℕ) → StandsAt t s c k ks → HasEquation c line k.book.first truth
      → Leads t s store (record d { builder = c }) p (Some line) (rise p.below p.current p)
  none_leads c line stands says = (
    p,
    (
      p.below,
      (
        p.current,
        (
          refl,
          (
            alike_same p,
            record {
              top = k;
              others = ks;
              counts = w.stands.counts;
              undone = w.stands.undone;
              current = w.stands.current.0;
              level_is = w.stands.level_is;
              stored = w.stands.stored;
              under = w.stands.below;
              earlier = d.builder;
              before = w.stands.holds;
              leaving = stands.leaving;
              says = says;
            },
          ),
        ),
      ),
    ),
  )
