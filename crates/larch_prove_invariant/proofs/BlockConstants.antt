-- The constants that the boxes of levels make.
use Rattle.std.specs.Prelude.{◌≡◌, ◌≢◌, ◌⊎◌, List, [], ◌∷◌, ◌++◌, map, All, AllPairs, Contains, Option, None, Some}
use Rattle.std.specs.Prelude.{refl}
use Rattle.std.specs.Prelude.{option_map}
use Rattle.std.specs.List.{flat_map}
use Rattle.std.specs.Option.{option_or}
use Rattle.std.proofs.Common.{ap, inl, inr, subst, sym, ◌∙◌}
use Rattle.std.proofs.lemmas.List.{append_assoc, append-nil}
use Rattle.std.proofs.lemmas.List.Elements.{All-append, All-cons, All-contains, All-nil, All-weaker}
use Rattle.larch_base.proofs.Lists.{all_from}
use Rattle.larch_base.proofs.Members.{contains_either, contains_left, contains_none}
use Rattle.larch_term.specs.Operator.{PlainOperator}
use Rattle.larch_term.specs.declared.statement.Statement.{Statement}
use Rattle.larch_term.specs.declared.statement.Statement.TheVariants.{Equation, Generated, Partitioned}
use Rattle.larch_term.specs.declared.statement.Theory.{Theory}
use Rattle.larch_calculus.specs.Theories.{AreConstants, AreNew}
use Rattle.larch_derive.specs.Builder.{boxes_in}
use Rattle.larch_derive.specs.OpenBox.{constant_of, place_from}
use Rattle.larch_derive.specs.Words.{AreWordedOperators, IsWordedOperator}
use Rattle.larch_derive.specs.declared.builder.Builder.{Builder}
use Rattle.larch_derive.specs.declared.open_box.OpenBox.{OpenBox}
use Rattle.larch_derive.proofs.Codes.{place_none}
use Rattle.larch_methods.specs.DeriveBoxesBoxes.{IsPart}
use Rattle.larch_methods.specs.ProvePlansClauseGoals.{generation_goal, partition_goal}
use Rattle.larch_methods.specs.ProvePlansSubgoalsSubgoal as stated
use Rattle.larch_prove_invariant.specs.Book.{Book, Kept, SupposingBox, all_boxes, boxes_of, made_first, made_in}
use Rattle.larch_prove_invariant.specs.Book.{shared_boxes}
use Rattle.larch_prove_invariant.specs.Holding.{AreOwn, Begins, EntersClause, HasConstants, Holds, Shape}
use Rattle.larch_prove_invariant.specs.Holding.{open_constants, shape_of}
use Rattle.larch_prove_invariant.proofs.Apart.{pairs_append, pairs_first}
use Rattle.larch_prove_invariant.proofs.Held.{boxes_held}
use Rattle.larch_prove_invariant.proofs.Making.{boxes_made, made_append}

-- ---- boxes and what they make

pub shapes_made : (xs : List SupposingBox)
    → made_in xs ≡ flat_map (λ (h : Shape). h.constants) (map shape_of xs)
shapes_made [] = refl
shapes_made (x ∷ xs) = ap (λ fs. x.box.constants ++ fs) (shapes_made xs)

-- the constants of open boxes are those that the levels' boxes make
pub open_made : (t : Theory) (s : Statement) (b : Builder) (ks : List Kept) → Holds t s b ks
    → open_constants b ≡ made_in (all_boxes ks)
open_made t s b ks h =
    ap (flat_map (λ (y : OpenBox). y.constants)) (boxes_held t s b ks h).1.0 ∙ boxes_made (all_boxes ks)

-- ---- predicates

shape_parts : (s : stated.Subgoal) (k : Book) → All IsPart s.constants → EntersClause s k
    → All IsPart (made_in k.entrance)
shape_parts s k h e =
    subst (All IsPart) (sym (shapes_made k.entrance ∙ (ap (flat_map (λ (x : Shape). x.constants)) e.entrance
    ∙ append-nil s.constants))) h

begun_parts : (s : Statement) (k : Book) → Begins s k → All IsPart (made_in k.entrance)
begun_parts (Equation l r) k h = subst (λ xs. All IsPart (made_in xs)) (sym h.1) (All-nil IsPart)
begun_parts (Generated s fs) k (n, h) =
    shape_parts (generation_goal n s fs) k (All-cons IsPart _ [] (inr (s, refl, refl)) (All-nil IsPart)) h
begun_parts (Partitioned s os) k (n, (m, (d, h))) =
    shape_parts (partition_goal n m s os) k
    (All-cons IsPart _ (_ ∷ []) (inl refl) (All-cons IsPart _ [] (inl refl) (All-nil IsPart))) h

pub first_parts : (t : Theory) (s : Statement) (b : Builder) (ks : List Kept) → Holds t s b ks
    → All IsPart (made_first ks)
first_parts t s b [] h = All-nil IsPart
first_parts t s b (k ∷ []) (a, (i, (e, l))) = begun_parts s k.book e.1
first_parts t s b (k ∷ j ∷ ks) (a, (i, (e, l))) = first_parts t s a (j ∷ ks) i

-- the box of the lowest level is open
pub first_among : (ks : List Kept) (f : PlainOperator) → Contains (made_first ks) f
    → Contains (made_in (all_boxes ks)) f
first_among [] f c = absurd (contains_none f c)
first_among (k ∷ []) f c =
    subst (λ fs. Contains fs f) (sym (ap made_in (append_assoc k.book.entrance k.book.extras
    (shared_boxes k.book.running)) ∙ made_append k.book.entrance (k.book.extras ++ shared_boxes k.book.running)))
    (contains_left (made_in k.book.entrance) (made_in (k.book.extras ++ shared_boxes k.book.running)) f c)
first_among (k ∷ j ∷ ks) f c =
    subst (λ fs. Contains fs f) (sym (made_append (all_boxes (j ∷ ks)) (boxes_of k.book)))
    (contains_left (made_in (all_boxes (j ∷ ks))) (made_in (boxes_of k.book)) f (first_among (j ∷ ks) f c))

-- each constant of the block is a constant or a predicate
pub all_parts : (t : Theory) (s : Statement) (b : Builder) (cs : List PlainOperator) (ks : List Kept) → Holds t s b ks
    → HasConstants t cs ks → All IsPart cs
all_parts t s b cs ks h c =
    All-weaker (λ (f : PlainOperator). (f.domain ≡ []) ⊎ Contains (made_first ks) f) IsPart
    (λ f w. elim w [
      | inl e ↦ inl e
      | inr i ↦ All-contains IsPart (made_first ks) f (first_parts t s b ks h) i
    ]) cs c.plain

pub open_parts : (t : Theory) (s : Statement) (b : Builder) (cs : List PlainOperator) (ks : List Kept) → Holds t s b ks
    → HasConstants t cs ks → All IsPart (open_constants b)
open_parts t s b cs ks h c =
    subst (All IsPart) (sym (open_made t s b ks h))
    (All-weaker (Contains cs) IsPart (λ f i. All-contains IsPart cs f (all_parts t s b cs ks h c) i)
    (made_in (all_boxes ks)) c.among)

-- ---- boxes that are opened and closed

none_either : {A : Type 0} (o p : Option A) → option_or o p ≡ None → (o ≡ None) × (p ≡ None)
none_either None p e = (refl, e)
none_either (Some x) p e = cc

mapped_none : {A B : Type 0} (f : A → B) (o : Option A) → option_map f o ≡ None → o ≡ None
mapped_none f None e = refl
mapped_none f (Some x) e = cc

-- what stands for no constant of open boxes is made by none of them
pub not_made : (bs : List OpenBox) (f : PlainOperator) → constant_of bs f ≡ None
    → Contains (flat_map (λ (y : OpenBox). y.constants) bs) f → ⊥
not_made [] f e c = absurd (contains_none f c)
not_made (b ∷ bs) f e c =
    let n = none_either (option_map (λ k. (b.number, k)) (place_from 1 b.constants f)) (constant_of bs f) e in
    elim (contains_either b.constants (flat_map (λ (y : OpenBox). y.constants) bs) f c) [
      | inl d ↦ place_none 1 b.constants f (mapped_none (λ k. (b.number, k)) (place_from 1 b.constants f) n.0) d
      | inr d ↦ not_made bs f n.1 d
    ]

-- with more boxes, whose constants are of the block and stand for none of an open box
pub constants_opened : (t : Theory) (s : Statement) (b : Builder) (cs : List PlainOperator) (ks js : List Kept)
    (xs : List SupposingBox) → Holds t s b ks → all_boxes js ≡ all_boxes ks ++ xs → made_first js ≡ made_first ks
    → All (Contains cs) (made_in xs) → AreOwn b (made_in xs) → HasConstants t cs ks → HasConstants t cs js
constants_opened t s b cs ks js xs h e f among own c =
    let made : made_in (all_boxes js) ≡ made_in (all_boxes ks) ++ made_in xs =
    ap made_in e ∙ made_append (all_boxes ks) xs in
    let none = λ (g : PlainOperator) (i : Contains (made_in xs) g) (d : Contains (made_in (all_boxes ks)) g).
    not_made (boxes_in b) g (All-contains (λ k. constant_of (boxes_in b) k ≡ None) (made_in xs) g own.outer i)
    (subst (λ gs. Contains gs g) (sym (open_made t s b ks h)) d) in
    record {
      among = subst (All (Contains cs)) (sym made)
          (All-append (Contains cs) (made_in (all_boxes ks)) (made_in xs) c.among among);
      once = subst (AllPairs (λ g k. g ≢ k)) (sym made)
          (pairs_append (λ g k. g ≢ k) (made_in (all_boxes ks)) (made_in xs) c.once own.different
          (λ g k i d q. none k d (subst (Contains (made_in (all_boxes ks))) q i)));
      plain = subst (λ gs. All (λ (k : PlainOperator). (k.domain ≡ []) ⊎ Contains gs k) cs) (sym f) c.plain;
      new = c.new;
      words = c.words;
    }

-- with the last boxes closed
pub constants_closed : (t : Theory) (cs : List PlainOperator) (ks js : List Kept) (xs : List SupposingBox)
    → all_boxes ks ≡ all_boxes js ++ xs → made_first js ≡ made_first ks → HasConstants t cs ks → HasConstants t cs js
constants_closed t cs ks js xs e f c =
    let made : made_in (all_boxes ks) ≡ made_in (all_boxes js) ++ made_in xs =
    ap made_in e ∙ made_append (all_boxes js) xs in
    record {
      among = all_from (Contains cs) (made_in (all_boxes js)) (λ g i.
          All-contains (Contains cs) (made_in (all_boxes ks)) g c.among (subst (λ gs. Contains gs g) (sym made)
          (contains_left (made_in (all_boxes js)) (made_in xs) g i)));
      once = pairs_first (λ g k. g ≢ k) (made_in (all_boxes js)) (made_in xs)
          (subst (AllPairs (λ g k. g ≢ k)) made c.once);
      plain = subst (λ gs. All (λ (k : PlainOperator). (k.domain ≡ []) ⊎ Contains gs k) cs) (sym f) c.plain;
      new = c.new;
      words = c.words;
    }

-- with more constants of the block
pub constants_more : (t : Theory) (cs ds : List PlainOperator) (ks : List Kept) → AreNew t (cs ++ ds)
    → AreConstants ds → AreWordedOperators ds → HasConstants t cs ks → HasConstants t (cs ++ ds) ks
constants_more t cs ds ks n a w c =
    let P : PlainOperator → Type 0 = λ (k : PlainOperator). (k.domain ≡ []) ⊎ Contains (made_first ks) k in
    record {
      among = All-weaker (Contains cs) (Contains (cs ++ ds)) (λ g i. contains_left cs ds g i)
          (made_in (all_boxes ks)) c.among;
      once = c.once;
      plain = All-append P cs ds c.plain (All-weaker (λ (k : PlainOperator). k.domain ≡ []) P (λ g e. inl e) ds a);
      new = n;
      words = All-append IsWordedOperator cs ds c.words w;
    }
