-- Boxes that are opened in turn for constants whose own box isn't open.
use Rattle.std.specs.Prelude.{◌≡◌, ◌<◌, ◌≤◌, ◌+◌, ℕ, List, [], ◌∷◌, ◌++◌, map, length, take, drop, get_or, All}
use Rattle.std.specs.Prelude.{Contains, IfOk, None, Result, Ok, Err, refl}
use Rattle.std.proofs.Common.{ap, subst, sym, ◌∙◌}
use Rattle.std.proofs.lemmas.List.{append_assoc, append-nil, drop_more, map-append, take-append-drop, take_all}
use Rattle.std.proofs.lemmas.List.{take_more}
use Rattle.std.proofs.lemmas.List.Elements.{All-cons, All-contains, All-nil}
use Rattle.larch_term.specs.Operator.{PlainOperator}
use Rattle.larch_term.specs.Sorts.{IsKnown, IsTermOver}
use Rattle.larch_term.specs.Tree.{Tree}
use Rattle.larch_term.specs.declared.statement.Statement.{Statement}
use Rattle.larch_term.specs.declared.statement.Theory.{Theory}
use Rattle.larch_derive.specs.Builder.{theory_in}
use Rattle.larch_derive.specs.Predicates.{AreOthers, Known}
use Rattle.larch_derive.specs.Words.{AreWordedOperators, IsWordedOperator, IsWordedTerm}
use Rattle.larch_derive.specs.declared.builder.Builder.{Builder}
use Rattle.larch_derive.specs.declared.open_box.OpenBox.{OpenBox}
use Rattle.larch_derive.proofs.Growth.{grown_known, grows_same}
use Rattle.larch_prove_invariant.specs.DeriveBoxesBoxes.{Opens}
use Rattle.larch_prove_invariant.proofs.DeriveBoxesOpening.{opened_known}
use Rattle.larch_prove_invariant.specs.MethodsOpening.{MayOpen}
use Rattle.larch_prove_invariant.proofs.MethodsOpened.{may_open_bare}
use Rattle.larch_prove_invariant.specs.ProveMeaningLevels.{Level}
use Rattle.larch_prove_invariant.specs.Book.{Kept, SupposingBox, made_in, with_extra}
use Rattle.larch_prove_invariant.specs.Holding.{AreOwn, HoldsLevels, Through, open_constants}
use Rattle.larch_prove_invariant.specs.Unopened.{unopened_in}
use Rattle.larch_prove_invariant.proofs.Boxes.{through_append}
use Rattle.larch_prove_invariant.proofs.Held.{boxes_held, holding_stands}
use Rattle.larch_prove_invariant.proofs.LevelConstants.{levels_extra}
use Rattle.larch_prove_invariant.proofs.Making.{open_inside}
use Rattle.larch_prove_invariant.proofs.Own.{new_are_others}
use Rattle.larch_prove_invariant.proofs.Unopened.{next_unopened, unopened_known, unopened_own}
use Rattle.larch_prove_boxes.specs.BoxLists.{boxes_with}
use Rattle.larch_prove_boxes.specs.Extras.{AreToOpen, MakeEach, bare_box, bare_boxes, with_extras}

-- ---- one box

-- a constant of the block may have a box of its own
may_open_one : (t : Theory) (s : Statement) (b : Builder) (cs : List PlainOperator) (levels : List Level)
    (ks : List Kept) (f : PlainOperator) → Contains cs f → HoldsLevels t s b cs levels ks → MayOpen b (f ∷ []) []
may_open_one t s b cs levels ks f i h =
    let other : IsKnown t.operators f → ⊥ =
    All-contains (λ (c : PlainOperator). IsKnown t.operators c → ⊥) cs f (new_are_others t cs h.constants.new) i in
    let others : AreOthers (theory_in b) (f ∷ []) =
    subst (λ (u : Theory). AreOthers u (f ∷ [])) (sym (boxes_held t s b ks h.held).0)
    (All-cons (λ (c : PlainOperator). IsKnown t.operators c → ⊥) f [] other
    (All-nil (λ (c : PlainOperator). IsKnown t.operators c → ⊥))) in
    let words : AreWordedOperators (f ∷ []) =
    All-cons IsWordedOperator f [] (All-contains IsWordedOperator cs f h.constants.words i)
    (All-nil IsWordedOperator) in
    may_open_bare b (f ∷ []) (holding_stands t s b ks h.held) others words

-- a box that is opened where a builder stands
pub through_one : (b c : Builder) (x : SupposingBox) → Opens b c x.box x.hypotheses → Through b (x ∷ []) c
through_one b c x o = (b, (c, (grows_same b b refl, (o, grows_same c c refl))))

pub constant_open : (t : Theory) (s : Statement) (b c : Builder) (cs : List PlainOperator) (levels : List Level)
    (k : Kept) (ks : List Kept) (f : PlainOperator) (x : OpenBox) → x.constants ≡ f ∷ []
    → (MayOpen b (f ∷ []) [] → Opens b c x []) → k.book.running ≡ None → Contains cs f
    → (Contains (open_constants b) f → ⊥) → HoldsLevels t s b cs levels (k ∷ ks)
    → Through b (bare_box x ∷ []) c × HoldsLevels t s c cs levels (with_extra (bare_box x) k ∷ ks)
constant_open t s b c cs levels k ks f x e o idle i out h =
    let m = through_one b c (bare_box x) (o (may_open_one t s b cs levels (k ∷ ks) f i h)) in (
      m,
      levels_extra t s b c cs levels (bare_box x) k ks m idle
          (subst (All (Contains cs)) (sym e) (All-cons (Contains cs) f [] i (All-nil (Contains cs))))
          (subst (AreOwn b) (sym e) (unopened_own t s b cs levels (k ∷ ks) f h i out)) h,
    )

-- ---- several boxes

-- boxes that suppose nothing are these boxes, and have no hypotheses
pub bare_same : (xs : List OpenBox) → boxes_with (bare_boxes xs) ≡ xs
bare_same [] = refl
bare_same (x ∷ xs) = ap (λ ys. x ∷ ys) (bare_same xs)

pub bare_suppose_nothing : (xs : List OpenBox) → All (λ x. x.hypotheses ≡ []) (bare_boxes xs)
bare_suppose_nothing [] = All-nil (λ (x : SupposingBox). x.hypotheses ≡ [])
bare_suppose_nothing (x ∷ xs) =
    All-cons (λ (y : SupposingBox). y.hypotheses ≡ []) (bare_box x) (bare_boxes xs) refl (bare_suppose_nothing xs)

-- the boxes make the constants
pub each_made : (xs : List OpenBox) (fs : List PlainOperator) → MakeEach xs fs → made_in (bare_boxes xs) ≡ fs
each_made [] [] e = refl
each_made [] (f ∷ fs) e = cc
each_made (x ∷ xs) [] e = cc
each_made (x ∷ xs) (f ∷ fs) e =
    let first : x.constants ≡ f ∷ [] = cc in
    let rest : map (λ (y : OpenBox). y.constants) xs ≡ map (λ (g : PlainOperator). g ∷ []) fs = cc in
    ap (λ gs. gs ++ made_in (bare_boxes xs)) first ∙ ap (λ gs. f ∷ gs) (each_made xs fs rest)

-- the level with none, and with one more
none_more : (k : Kept) → k ≡ with_extras [] k
none_more k = ap (λ xs. record k { book = record k.book { extras = xs } }) (sym (append-nil k.book.extras))

one_more : (xs : List OpenBox) (x : OpenBox) (k : Kept)
    → with_extra (bare_box x) (with_extras (bare_boxes xs) k) ≡ with_extras (bare_boxes (xs ++ x ∷ [])) k
one_more xs x k =
    ap (λ ys. record k { book = record k.book { extras = ys } })
    (append_assoc k.book.extras (bare_boxes xs) (bare_box x ∷ [])
    ∙ ap (λ ys. k.book.extras ++ ys) (sym (map-append bare_box xs (x ∷ []))))

-- from one builder to another boxes were opened in turn for constants
pub record AreOpenSoFar (a b : Builder) (all fs : List PlainOperator) (xs : List OpenBox) : Type 0 where
  pub constants : MakeEach xs fs
  pub holds : (t : Theory) (s : Statement) (cs : List PlainOperator) (levels : List Level) (k : Kept) (ks : List Kept)
      → k.book.running ≡ None → AreToOpen cs (open_constants a) all → HoldsLevels t s a cs levels (k ∷ ks)
      → Through a (bare_boxes xs) b × HoldsLevels t s b cs levels (with_extras (bare_boxes xs) k ∷ ks)

pub none_so_far : (a : Builder) (all : List PlainOperator) → AreOpenSoFar a a all [] []
none_so_far a all = record {
  constants = refl;
  holds = λ t s cs levels k ks idle m h.
      (grows_same a a refl, subst (λ j. HoldsLevels t s a cs levels (j ∷ ks)) (none_more k) h);
}

-- what a further box does
abbrev pub OpensOneMore : Builder → Builder → PlainOperator → OpenBox → Type 0
OpensOneMore b c f x = (t : Theory) (s : Statement) (cs : List PlainOperator) (levels : List Level) (k : Kept)
    (ks : List Kept) → k.book.running ≡ None → Contains cs f → (Contains (open_constants b) f → ⊥)
    → HoldsLevels t s b cs levels (k ∷ ks)
    → Through b (bare_box x ∷ []) c × HoldsLevels t s c cs levels (with_extra (bare_box x) k ∷ ks)

pub one_more_open : (a b c : Builder) (all fs rest : List PlainOperator) (xs : List OpenBox) (f : PlainOperator)
    (x : OpenBox) → all ≡ fs ++ f ∷ rest → x.constants ≡ f ∷ [] → OpensOneMore b c f x → AreOpenSoFar a b all fs xs
    → AreOpenSoFar a c all (fs ++ f ∷ []) (xs ++ x ∷ [])
one_more_open a b c all fs rest xs f x e own more far = record {
  constants = map-append (λ (y : OpenBox). y.constants) xs (x ∷ [])
      ∙ (ap (λ ys. map (λ (y : OpenBox). y.constants) xs ++ ys ∷ []) own
      ∙ (ap (λ ys. ys ++ (f ∷ []) ∷ []) far.constants
      ∙ sym (map-append (λ (g : PlainOperator). g ∷ []) fs (f ∷ []))));
  holds = λ t s cs levels k ks idle m h.
      let before = far.holds t s cs levels k ks idle m h in
      let next = m fs f rest e in
      let opened : open_constants b ≡ open_constants a ++ fs =
      open_inside a b (bare_boxes xs) before.0
      ∙ ap (λ gs. open_constants a ++ gs) (each_made xs fs far.constants) in
      let step = more t s cs levels (with_extras (bare_boxes xs) k) ks idle next.0
      (λ i. next.1 (subst (λ gs. Contains gs f) opened i)) before.1 in (
        subst (λ ys. Through a ys c) (sym (map-append bare_box xs (x ∷ [])))
            (through_append a b c (bare_boxes xs) (bare_box x ∷ []) before.0 step.0),
        subst (λ j. HoldsLevels t s c cs levels (j ∷ ks)) (one_more xs x k) step.1,
      );
}

-- with the one at a place
pub one_more_at : (a b c : Builder) (all : List PlainOperator) (i : ℕ) (f : PlainOperator) (xs ys : List OpenBox)
    (x : OpenBox) → i < length all → f ≡ get_or all i f → ys ≡ xs ++ x ∷ [] → x.constants ≡ f ∷ []
    → OpensOneMore b c f x → AreOpenSoFar a b all (take i all) xs → AreOpenSoFar a c all (take (i + 1) all) ys
one_more_at a b c all i f xs ys x lt q e own more far =
    let here : drop i all ≡ f ∷ drop (i + 1) all =
    drop_more all i f lt ∙ ap (λ g. g ∷ drop (i + 1) all) (sym q) in
    let cut : all ≡ take i all ++ f ∷ drop (i + 1) all =
    sym (take-append-drop i all) ∙ ap (λ gs. take i all ++ gs) here in
    let longer : take (i + 1) all ≡ take i all ++ f ∷ [] =
    take_more all i f lt ∙ ap (λ g. take i all ++ g ∷ []) (sym q) in
    subst (AreOpenSoFar a c all (take (i + 1) all)) (sym e)
    (subst (λ fs. AreOpenSoFar a c all fs (xs ++ x ∷ [])) (sym longer)
    (one_more_open a b c all (take i all) (drop (i + 1) all) xs f x cut own more far))

pub all_so_far : (a b : Builder) (all : List PlainOperator) (i : ℕ) (xs : List OpenBox) → length all ≤ i
    → AreOpenSoFar a b all (take i all) xs
    → AreOpenSoFar a b all all xs
all_so_far a b all i xs le far = subst (λ fs. AreOpenSoFar a b all fs xs) (take_all i all le) far

-- what holds of an answer by two things that hold of it
pub if_both : {X Y : Type 0} (P Q R : X → Type 0) (r : Result X Y) → ((x : X) → P x → Q x → R x) → IfOk r P
    → IfOk r Q
    → IfOk r R
if_both P Q R (Ok x) f p q = f x p q
if_both P Q R (Err e) f p q = tt

-- ---- the boxes of a term's constants

-- what the boxes of several constants do
abbrev pub OpensEach : Builder → Builder → List PlainOperator → List OpenBox → Type 0
OpensEach a b fs xs = (t : Theory) (s : Statement) (cs : List PlainOperator) (levels : List Level) (k : Kept)
    (ks : List Kept) → k.book.running ≡ None → AreToOpen cs (open_constants a) fs
    → HoldsLevels t s a cs levels (k ∷ ks)
    → Through a (bare_boxes xs) b × HoldsLevels t s b cs levels (with_extras (bare_boxes xs) k ∷ ks)

-- the constants of a term that aren't open are to be opened
pub unopened_are_to_open : (block opened now : List PlainOperator) (t : Tree) → now ≡ opened
    → AreToOpen block now (unopened_in block opened t)
unopened_are_to_open block opened now t e before f behind l =
    let next = next_unopened block opened t before f behind l in
    (next.0, λ i. next.1 (subst (λ gs. Contains (gs ++ before) f) e i))

-- so their boxes are opened
pub term_open : (t : Theory) (s : Statement) (a b : Builder) (block opened : List PlainOperator) (levels : List Level)
    (k : Kept) (ks : List Kept) (u : Tree) (fs : List PlainOperator) (xs : List OpenBox)
    → fs ≡ unopened_in block opened u → OpensEach a b fs xs → k.book.running ≡ None → open_constants a ≡ opened
    → HoldsLevels t s a block levels (k ∷ ks)
    → Through a (bare_boxes xs) b × HoldsLevels t s b block levels (with_extras (bare_boxes xs) k ∷ ks)
term_open t s a b block opened levels k ks u fs xs e o idle now h =
    o t s block levels k ks idle
    (subst (AreToOpen block (open_constants a)) (sym e) (unopened_are_to_open block opened (open_constants a) u now)) h

-- where boxes were opened for constants, these are open too
pub each_open : (a b : Builder) (xs : List OpenBox) (fs opened : List PlainOperator) → MakeEach xs fs
    → open_constants a ≡ opened → Through a (bare_boxes xs) b → open_constants b ≡ opened ++ fs
each_open a b xs fs opened e o m =
    open_inside a b (bare_boxes xs) m
    ∙ (ap (λ gs. gs ++ made_in (bare_boxes xs)) o ∙ ap (λ gs. opened ++ gs) (each_made xs fs e))

-- and the term can be written
pub term_known : (t : Theory) (s : Statement) (a b : Builder) (block opened : List PlainOperator) (levels : List Level)
    (k : Kept) (ks : List Kept) (u : Tree) (xs : List OpenBox) → MakeEach xs (unopened_in block opened u)
    → open_constants a ≡ opened → Through a (bare_boxes xs) b
    → HoldsLevels t s b block levels (with_extras (bare_boxes xs) k ∷ ks) → IsTermOver (t.operators ++ block) u
    → IsWordedTerm u
    → Known b u
term_known t s a b block opened levels k ks u xs e o m h over words =
    unopened_known t s b block opened levels (with_extras (bare_boxes xs) k ∷ ks) u h
    (each_open a b xs (unopened_in block opened u) opened e o m) over words

-- what can be written can be written inside of boxes
pub known_through : (a b : Builder) (xs : List SupposingBox) (t : Tree) → Through a xs b → Known a t → Known b t
known_through a b [] t m h = grown_known a b t m h
known_through a b (x ∷ xs) t (c, (d, (g, (o, m)))) h =
    known_through d b xs t m (opened_known c d x.box x.hypotheses t o (grown_known a c t g h))
