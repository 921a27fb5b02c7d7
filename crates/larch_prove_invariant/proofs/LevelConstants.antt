-- Levels and the constants of a block, while a command is carried out.
use Rattle.std.specs.Prelude.{◌≡◌, ◌≢◌, ◌⊎◌, List, [], ◌∷◌, ◌++◌, All, AllPairs, Contains, None, Some, refl}
use Rattle.std.proofs.Common.{ap, inr, subst, sym, ◌∙◌}
use Rattle.std.proofs.lemmas.List.{append_assoc, append-nil}
use Rattle.std.proofs.lemmas.List.Elements.{All-contains}
use Rattle.larch_base.proofs.Lists.{all_from}
use Rattle.larch_term.specs.Operator.{PlainOperator}
use Rattle.larch_term.specs.declared.statement.Statement.{Statement}
use Rattle.larch_term.specs.declared.statement.Theory.{Theory}
use Rattle.larch_calculus.specs.Theories.{AreConstants, AreNew}
use Rattle.larch_derive.specs.Predicates.{Grows}
use Rattle.larch_derive.specs.Words.{AreWordedOperators}
use Rattle.larch_derive.specs.declared.builder.Builder.{Builder}
use Rattle.larch_methods.specs.ProveMeaningLevels.{Level}
use Rattle.larch_methods.specs.ProveMeaningPlans.{Subgoal}
use Rattle.larch_prove_invariant.specs.Book.{Book, IsWorkedOn, Kept, Left, Rests, Running, SupposingBox, all_boxes}
use Rattle.larch_prove_invariant.specs.Book.{boxes_of, levels_of, made_first, made_in, next_running, own_boxes}
use Rattle.larch_prove_invariant.specs.Book.{shared_boxes, with_extra, with_running}
use Rattle.larch_prove_invariant.specs.Holding.{AreOwn, HasConstants, HasLeft, Holds, HoldsLevels, IsEntered, IsPlanned}
use Rattle.larch_prove_invariant.specs.Holding.{Says, Through}
use Rattle.larch_prove_invariant.specs.Leaving.{Leaving}
use Rattle.larch_prove_invariant.proofs.BlockConstants.{constants_closed, constants_more, constants_opened}
use Rattle.larch_prove_invariant.proofs.Held.{extra_opened, holds_grows, level_entered, level_worked, method_begun}
use Rattle.larch_prove_invariant.proofs.Held.{subgoal_follows}
use Rattle.larch_prove_invariant.proofs.Left.{left_levels}
use Rattle.larch_prove_invariant.proofs.Own.{shared_are_own, shared_have}

pub levels_grow : (t : Theory) (s : Statement) (b c : Builder) (cs : List PlainOperator) (levels : List Level)
    (ks : List Kept) → Grows b c → HoldsLevels t s b cs levels ks → HoldsLevels t s c cs levels ks
levels_grow t s b c cs levels ks g h =
    record { levels_are = h.levels_are; held = holds_grows t s b c ks g h.held; constants = h.constants }

pub levels_more : (t : Theory) (s : Statement) (b : Builder) (cs ds : List PlainOperator) (levels : List Level)
    (ks : List Kept) → AreNew t (cs ++ ds) → AreConstants ds → AreWordedOperators ds → HoldsLevels t s b cs levels ks
    → HoldsLevels t s b (cs ++ ds) levels ks
levels_more t s b cs ds levels ks n a w h =
    record { levels_are = h.levels_are; held = h.held; constants = constants_more t cs ds ks n a w h.constants }

-- ---- the boxes of one level

first_same : (k j : Kept) (ks : List Kept) → j.book.entrance ≡ k.book.entrance
    → made_first (j ∷ ks) ≡ made_first (k ∷ ks)
first_same k j [] e = ap made_in e
first_same k j (n ∷ ks) e = refl

boxes_more : (k j : Kept) (ks : List Kept) (xs : List SupposingBox) → boxes_of j.book ≡ boxes_of k.book ++ xs
    → all_boxes (j ∷ ks) ≡ all_boxes (k ∷ ks) ++ xs
boxes_more k j ks xs e =
    ap (λ ys. all_boxes ks ++ ys) e ∙ sym (append_assoc (all_boxes ks) (boxes_of k.book) xs)

no_more : (xs ys : List SupposingBox) → xs ≡ ys → ys ≡ xs ++ []
no_more xs ys e = sym e ∙ sym (append-nil xs)

idle_boxes_are : (k : Book) → k.running ≡ None → boxes_of k ≡ own_boxes k
idle_boxes_are k e = ap (λ o. own_boxes k ++ shared_boxes o) e ∙ append-nil (own_boxes k)

-- the level is another one, with the same boxes
same_boxes : (t : Theory) (cs : List PlainOperator) (k j : Kept) (ks : List Kept) → boxes_of j.book ≡ boxes_of k.book
    → j.book.entrance ≡ k.book.entrance → HasConstants t cs (k ∷ ks) → HasConstants t cs (j ∷ ks)
same_boxes t cs k j ks e f c =
    constants_closed t cs (k ∷ ks) (j ∷ ks) []
    (no_more (all_boxes (j ∷ ks)) (all_boxes (k ∷ ks)) (ap (λ ys. all_boxes ks ++ ys) e)) (first_same k j ks f) c

-- ---- steps

pub levels_worked : (t : Theory) (s : Statement) (b c : Builder) (cs : List PlainOperator) (levels : List Level)
    (k j : Kept) (ks : List Kept) → Grows b c → IsWorkedOn k j → Says c j → HoldsLevels t s b cs levels (k ∷ ks)
    → HoldsLevels t s c cs (levels_of (j ∷ ks)) (j ∷ ks)
levels_worked t s b c cs levels k j ks g w l h =
    let same : own_boxes j.book ≡ own_boxes k.book =
    ap (λ xs. xs ++ j.book.extras) w.entrance ∙ ap (λ xs. k.book.entrance ++ xs) w.extras in
    record {
      levels_are = refl;
      held = level_worked t s b c k j ks g w l h.held;
      constants = same_boxes t cs k j ks
          (idle_boxes_are j.book w.behind.running ∙ (same ∙ sym (idle_boxes_are k.book w.before.running)))
          w.entrance h.constants;
    }

pub levels_extra : (t : Theory) (s : Statement) (b c : Builder) (cs : List PlainOperator) (levels : List Level)
    (x : SupposingBox) (k : Kept) (ks : List Kept) → Through b (x ∷ []) c → k.book.running ≡ None
    → All (Contains cs) x.box.constants → AreOwn b x.box.constants → HoldsLevels t s b cs levels (k ∷ ks)
    → HoldsLevels t s c cs levels (with_extra x k ∷ ks)
levels_extra t s b c cs levels x k ks m e among own h =
    let y = with_extra x k in
    let boxes : boxes_of y.book ≡ boxes_of k.book ++ x ∷ [] =
    idle_boxes_are y.book e
    ∙ (sym (append_assoc k.book.entrance k.book.extras (x ∷ []))
    ∙ ap (λ xs. xs ++ x ∷ []) (sym (idle_boxes_are k.book e))) in
    let one : x.box.constants ≡ made_in (x ∷ []) = sym (append-nil x.box.constants) in
    record {
      levels_are = h.levels_are;
      held = extra_opened t s b c x k ks m e h.held;
      constants = constants_opened t s b cs (k ∷ ks) (y ∷ ks) (x ∷ []) h.held (boxes_more k y ks (x ∷ []) boxes)
          (first_same k y ks refl) (subst (All (Contains cs)) one among) (subst (AreOwn b) one own) h.constants;
    }

pub levels_begun : (t : Theory) (s : Statement) (b c : Builder) (cs : List PlainOperator) (levels : List Level)
    (k : Kept) (ks : List Kept) (r : Running) (waiting : List Subgoal) → k.book.running ≡ None → Through b r.shared c
    → IsPlanned b c k.level.goal r → r.done ≡ [] → r.plan.subgoals ≡ r.now ∷ waiting
    → All (Contains cs) r.plan.constants → HoldsLevels t s b cs levels (k ∷ ks)
    → HoldsLevels t s c cs (levels_of (with_running r waiting k ∷ ks)) (with_running r waiting k ∷ ks)
levels_begun t s b c cs levels k ks r waiting e m p d o among h =
    let y = with_running r waiting k in
    let boxes : boxes_of y.book ≡ boxes_of k.book ++ r.shared =
    ap (λ xs. xs ++ r.shared) (sym (idle_boxes_are k.book e)) in
    record {
      levels_are = refl;
      held = method_begun t s b c k ks r waiting e m p d o h.held;
      constants = constants_opened t s b cs (k ∷ ks) (y ∷ ks) r.shared h.held (boxes_more k y ks r.shared boxes)
          (first_same k y ks refl)
          (all_from (Contains cs) (made_in r.shared) (λ f i. All-contains (Contains cs) r.plan.constants f among
          (shared_have r.method r.plan r.shared f p.shared i)))
          (shared_are_own b r p.shared p.apart) h.constants;
    }

pub levels_follow : (t : Theory) (s : Statement) (b : Builder) (cs : List PlainOperator) (levels : List Level)
    (k : Kept) (ks : List Kept) (r : Running) (left : Left) (next : Subgoal) (waiting : List Subgoal)
    → k.book.running ≡ Some r → k.level.remaining ≡ next ∷ waiting → HasLeft b r.method r.now left
    → HoldsLevels t s b cs levels (k ∷ ks)
    → HoldsLevels t s b cs (levels_of (with_running (next_running left next r) waiting k ∷ ks))
    (with_running (next_running left next r) waiting k ∷ ks)
levels_follow t s b cs levels k ks r left next waiting e q l h =
    let y = with_running (next_running left next r) waiting k in
    record {
      levels_are = refl;
      held = subgoal_follows t s b k ks r left next waiting h.held e q l;
      constants = same_boxes t cs k y ks (ap (λ o. own_boxes k.book ++ shared_boxes o) (sym e)) refl h.constants;
    }

-- a level is entered upon others
pub levels_entered : (t : Theory) (s : Statement) (b c : Builder) (cs : List PlainOperator) (levels : List Level)
    (k j : Kept) (ks : List Kept) → IsEntered s (j ∷ ks) k → Rests k → k.book.extras ≡ []
    → Through b (own_boxes k.book) c → Says c k → All (Contains cs) (made_in (own_boxes k.book))
    → AreOwn b (made_in (own_boxes k.book)) → HoldsLevels t s b cs levels (j ∷ ks)
    → HoldsLevels t s c cs (k.level ∷ levels) (k ∷ j ∷ ks)
levels_entered t s b c cs levels k j ks w r x m l among own h =
    record {
      levels_are = ap (λ ls. k.level ∷ ls) h.levels_are;
      held = level_entered t s b c k (j ∷ ks) h.held w r x m l;
      constants = constants_opened t s b cs (j ∷ ks) (k ∷ j ∷ ks) (own_boxes k.book) h.held
          (ap (λ xs. all_boxes (j ∷ ks) ++ xs) (idle_boxes_are k.book r.running)) refl among own h.constants;
    }

-- the first level, for a duty, in its box if it has one
pub levels_start : (t : Theory) (s : Statement) (b : Builder) (k : Kept) → Rests k → k.book.extras ≡ []
    → AreNew t (made_in k.book.entrance) → AreWordedOperators (made_in k.book.entrance) → Holds t s b (k ∷ [])
    → HoldsLevels t s b (made_in k.book.entrance) (k.level ∷ []) (k ∷ [])
levels_start t s b k r e n w h =
    let cs = made_in k.book.entrance in
    let same : made_in (all_boxes (k ∷ [])) ≡ cs =
    ap made_in (idle_boxes_are k.book r.running
    ∙ (ap (λ xs. k.book.entrance ++ xs) e ∙ append-nil k.book.entrance)) in
    record {
      levels_are = refl;
      held = h;
      constants = record {
        among = all_from (Contains cs) (made_in (all_boxes (k ∷ []))) (λ f c. subst (λ fs. Contains fs f) same c);
        once = subst (AllPairs (λ f g. f ≢ g)) (sym same) (λ i j f l m q.
            n.different i j f l m (ap (λ (x : PlainOperator). x.name) q));
        plain = all_from (λ (f : PlainOperator). (f.domain ≡ []) ⊎ Contains cs f) cs (λ f c. inr c);
        new = n;
        words = w;
      };
    }

-- a level is left to those below
pub levels_left : (t : Theory) (s : Statement) (b c : Builder) (cs : List PlainOperator) (levels : List Level)
    (k j : Kept) (ks : List Kept) → Leaving t s c [] (j ∷ ks) → HoldsLevels t s b cs levels (k ∷ j ∷ ks)
    → HoldsLevels t s c cs (levels_of (j ∷ ks)) (j ∷ ks)
levels_left t s b c cs levels k j ks l h =
    record {
      levels_are = refl;
      held = left_levels t s c (j ∷ ks) l;
      constants = constants_closed t cs (k ∷ j ∷ ks) (j ∷ ks) (boxes_of k.book) refl refl h.constants;
    }
