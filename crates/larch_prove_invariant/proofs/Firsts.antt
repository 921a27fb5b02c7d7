-- First goals of levels, outside of the levels' extra boxes.
use Rattle.std.specs.Prelude.{◌≡◌, ◌≢◌, ◌⊎◌, false, cond, List, [], ◌∷◌, ◌++◌, map, All, AllPairs, Contains, refl}
use Rattle.std.specs.List.{flat_map}
use Rattle.std.proofs.Common.{ap, inl, inr, subst, sym, ◌∙◌}
use Rattle.std.proofs.lemmas.List.{append_assoc, map-append}
use Rattle.std.proofs.lemmas.List.Elements.{All-contains}
use Rattle.larch_base.proofs.Bools.{true_or_false}
use Rattle.larch_base.proofs.Lists.{all_from}
use Rattle.larch_base.proofs.Members.{contains_here, contains_later, contains_left, contains_right}
use Rattle.larch_term.specs.Operator.{PlainOperator}
use Rattle.larch_term.specs.Sorts.{IsTermOver}
use Rattle.larch_term.specs.Substitution.{image}
use Rattle.larch_term.specs.Tree.{Tree, var}
use Rattle.larch_term.specs.Variable.{occurrences, same_variable}
use Rattle.larch_term.specs.declared.statement.Statement.{Statement}
use Rattle.larch_term.specs.declared.statement.Theory.{Theory}
use Rattle.larch_term.specs.declared.variable.Variable.{Variable}
use Rattle.larch_calculus.proofs.TermLawAgreement.{AgreeOn, same_by_agreement}
use Rattle.larch_calculus.proofs.TermLawOccurring.{variable_Decides}
use Rattle.larch_calculus.proofs.TermLawSubstitutions.{substituted_nil}
use Rattle.larch_calculus.specs.Formula.{constant}
use Rattle.larch_calculus.specs.Freed.{constants_for}
use Rattle.larch_calculus.proofs.Sorted.{knows_more, term_over_more}
use Rattle.larch_derive.specs.Builder.{boxes_in, theory_in}
use Rattle.larch_derive.specs.Predicates.{Known}
use Rattle.larch_derive.specs.declared.builder.Builder.{Builder}
use Rattle.larch_derive.specs.declared.open_box.OpenBox.{OpenBox}
use Rattle.larch_methods.specs.DeriveBoxesBoxes.{AreOwnConstants, IsPart}
use Rattle.larch_methods.specs.ProveMeaningLevels.{Level}
use Rattle.larch_methods.specs.Inside.{closed_in}
use Rattle.larch_prove_invariant.specs.Book.{Kept, SupposingBox, all_boxes, boxes_of, made_first, made_in}
use Rattle.larch_prove_invariant.specs.Book.{shared_boxes}
use Rattle.larch_prove_invariant.specs.Holding.{HoldsLevels, open_constants}
use Rattle.larch_prove_invariant.specs.Leaving.{Leaving}
use Rattle.larch_prove_invariant.proofs.Apart.{innermost_own, made_behind, pairs_across, pairs_first}
use Rattle.larch_prove_invariant.proofs.BlockConstants.{first_among, open_made, open_parts}
use Rattle.larch_prove_invariant.proofs.Boxes.{through_boxes, through_stands}
use Rattle.larch_prove_invariant.proofs.Held.{boxes_held, holding_stands}
use Rattle.larch_prove_invariant.proofs.Knowing.{open_known}
use Rattle.larch_prove_invariant.proofs.Making.{boxes_made, made_append, open_inside}

-- the boxes of a level, of which some of the extra ones come last
boxes_parted : (k : Kept) (ks : List Kept) (xs ys : List SupposingBox) → k.book.extras ≡ xs ++ ys
    → all_boxes (k ∷ ks)
    ≡ (all_boxes ks ++ (k.book.entrance ++ xs)) ++ (ys ++ shared_boxes k.book.running)
boxes_parted k ks xs ys e =
    let own = all_boxes ks in
    let shared = shared_boxes k.book.running in
    let inner : boxes_of k.book ≡ (k.book.entrance ++ xs) ++ (ys ++ shared) =
    ap (λ zs. (k.book.entrance ++ zs) ++ shared) e
    ∙ (ap (λ zs. zs ++ shared) (sym (append_assoc k.book.entrance xs ys))
    ∙ append_assoc (k.book.entrance ++ xs) ys shared) in
    ap (λ zs. own ++ zs) inner ∙ sym (append_assoc own (k.book.entrance ++ xs) (ys ++ shared))

-- where the extra boxes of a level are closed up to some, its first goal can be written
pub first_known : (t : Theory) (s : Statement) (b c : Builder) (cs : List PlainOperator) (levels : List Level)
    (k : Kept) (ks : List Kept) (xs ys : List SupposingBox) → HoldsLevels t s b cs levels (k ∷ ks)
    → k.book.extras ≡ xs ++ ys → Leaving t s c (k.book.entrance ++ xs) ks → Known c k.book.first
first_known t s b c cs levels k ks xs ys h e m =
    let a = h.held.0 in
    let below = h.held.1.0 in
    let first = h.held.1.1.1.first in
    let A = made_in (all_boxes ks) in
    let E = made_in k.book.entrance in
    let X = made_in xs in
    let there : IsTermOver (t.operators ++ (A ++ E)) k.book.first =
    subst (λ (u : Theory). IsTermOver (u.operators ++ (A ++ E)) k.book.first) (boxes_held t s a ks below).0
    (subst (λ fs. IsTermOver ((theory_in a).operators ++ (fs ++ E)) k.book.first) (open_made t s a ks below)
    first.over) in
    let theory : theory_in c ≡ t =
    (through_boxes m.entered c (k.book.entrance ++ xs) m.boxes).0 ∙ (boxes_held t s m.entered ks m.below).0 in
    let opened : open_constants c ≡ A ++ made_in (k.book.entrance ++ xs) =
    open_inside m.entered c (k.book.entrance ++ xs) m.boxes
    ∙ ap (λ fs. fs ++ made_in (k.book.entrance ++ xs)) (open_made t s m.entered ks m.below) in
    let order : (t.operators ++ (A ++ E)) ++ X ≡ t.operators ++ (A ++ made_in (k.book.entrance ++ xs)) =
    append_assoc t.operators (A ++ E) X
    ∙ ap (λ fs. t.operators ++ fs) (append_assoc A E X ∙ ap (λ fs. A ++ fs) (sym (made_append k.book.entrance xs))) in
    let over : IsTermOver ((theory_in c).operators ++ open_constants c) k.book.first =
    subst (λ (u : Theory). IsTermOver (u.operators ++ open_constants c) k.book.first) (sym theory)
    (subst (λ fs. IsTermOver (t.operators ++ fs) k.book.first) (sym opened)
    (subst (λ fs. IsTermOver fs k.book.first) order
    (term_over_more (t.operators ++ (A ++ E)) ((t.operators ++ (A ++ E)) ++ X)
    (knows_more (t.operators ++ (A ++ E)) X) k.book.first there))) in
    let front = all_boxes ks ++ (k.book.entrance ++ xs) in
    let rest = ys ++ shared_boxes k.book.running in
    let all : All IsPart (made_in front ++ made_in rest) =
    subst (All IsPart) (open_made t s b (k ∷ ks) h.held ∙ (ap made_in (boxes_parted k ks xs ys e)
    ∙ made_append front rest)) (open_parts t s b cs (k ∷ ks) h.held h.constants) in
    let parts : All IsPart (open_constants c) =
    subst (All IsPart) (made_append (all_boxes ks) (k.book.entrance ++ xs) ∙ sym opened)
    (all_from IsPart (made_in front) (λ f i.
    All-contains IsPart (made_in front ++ made_in rest) f all (contains_left (made_in front) (made_in rest) f i))) in
    open_known c k.book.first
    (through_stands m.entered c (k.book.entrance ++ xs) m.boxes (holding_stands t s m.entered ks m.below)) parts over
    first.words

-- ---- the constants of extra boxes

-- what the box of the lowest level makes is made outside of the extra boxes of the current one
first_outside : (k : Kept) (ks : List Kept) (xs : List SupposingBox) (f : PlainOperator)
    → Contains (made_first (k ∷ ks)) f → Contains (made_in (all_boxes ks ++ (k.book.entrance ++ xs))) f
first_outside k [] xs f c =
    subst (λ fs. Contains fs f) (sym (made_append k.book.entrance xs))
    (contains_left (made_in k.book.entrance) (made_in xs) f c)
first_outside k (j ∷ js) xs f c =
    subst (λ fs. Contains fs f) (sym (made_append (all_boxes (j ∷ js)) (k.book.entrance ++ xs)))
    (contains_left (made_in (all_boxes (j ∷ js))) (made_in (k.book.entrance ++ xs)) f (first_among (j ∷ js) f c))

-- where the boxes behind an extra one are closed, it has its own constants, which can be freed
pub extra_own : (t : Theory) (s : Statement) (b a : Builder) (cs : List PlainOperator) (levels : List Level) (k : Kept)
    (ks : List Kept) (xs ys : List SupposingBox) (x : SupposingBox) → HoldsLevels t s b cs levels (k ∷ ks)
    → k.book.extras ≡ xs ++ x ∷ ys → Leaving t s a (k.book.entrance ++ xs) ks → AreOwnConstants (boxes_in a) x.box
extra_own t s b a cs levels k ks xs ys x h e m =
    let outer = all_boxes ks ++ (k.book.entrance ++ xs) in
    let M = made_in outer in
    let rest = made_in (ys ++ shared_boxes k.book.running) in
    let order : made_in (all_boxes (k ∷ ks)) ≡ (M ++ x.box.constants) ++ rest =
    ap made_in (boxes_parted k ks xs (x ∷ ys) e)
    ∙ (made_append outer (x ∷ (ys ++ shared_boxes k.book.running)) ∙ sym (append_assoc M x.box.constants rest)) in
    let once = subst (AllPairs (λ f g. f ≢ g)) order h.constants.once in
    let front = pairs_first (λ f g. f ≢ g) (M ++ x.box.constants) rest once in
    let among = subst (All (Contains cs)) order h.constants.among in
    let boxes : boxes_in a ≡ map (λ y. y.box) outer =
    (through_boxes m.entered a (k.book.entrance ++ xs) m.boxes).1
    ∙ (ap (λ bs. bs ++ map (λ y. y.box) (k.book.entrance ++ xs)) (boxes_held t s m.entered ks m.below).1.0
    ∙ sym (map-append (λ (y : SupposingBox). y.box) (all_boxes ks) (k.book.entrance ++ xs))) in
    let made : flat_map (λ (y : OpenBox). y.constants) (boxes_in a ++ x.box ∷ []) ≡ M ++ x.box.constants =
    made_behind (boxes_in a) x.box
    ∙ ap (λ fs. fs ++ x.box.constants) (ap (flat_map (λ (y : OpenBox). y.constants)) boxes ∙ boxes_made outer) in
    innermost_own (boxes_in a) x.box (subst (AllPairs (λ f g. f ≢ g)) (sym made) front)
    (all_from (λ (f : PlainOperator). f.domain ≡ []) x.box.constants (λ f c.
    let there = All-contains (Contains cs) ((M ++ x.box.constants) ++ rest) f among
    (contains_left (M ++ x.box.constants) rest f (contains_right M x.box.constants f c)) in
    elim (All-contains (λ (g : PlainOperator). (g.domain ≡ []) ⊎ Contains (made_first (k ∷ ks)) g) cs f
    h.constants.plain there) [
      | inl d ↦ d
      | inr i ↦ absurd (pairs_across (λ g j. g ≢ j) M x.box.constants f f front (first_outside k ks xs f i) c refl)
    ]))

-- ---- constants in the places of other variables

other : (v w : Variable) → (v ≡ w → ⊥) → same_variable v w ≡ false
other v w h = elim (true_or_false (same_variable v w)) [ inl a ↦ absurd (h ((variable_Decides v w).0 a)) | inr b ↦ b ]

not_replaced : (vs : List Variable) (cs : List PlainOperator) (w : Variable) → (Contains vs w → ⊥)
    → image (constants_for vs cs) w.name w.sort ≡ var w.name w.sort
not_replaced [] cs w h = refl
not_replaced (v ∷ vs) [] w h = refl
not_replaced (v ∷ vs) (c ∷ cs) w h =
    ap (λ b. cond b (constant c) (image (constants_for vs cs) w.name w.sort))
    (other v w (λ e. h (subst (Contains (v ∷ vs)) e (contains_here v vs))))
    ∙ not_replaced vs cs w (λ d. h (contains_later v w vs d))

-- a term without these variables stays as it is
pub closing_stays : (vs : List Variable) (x : OpenBox) (t : Tree)
    → ((v : Variable) → Contains vs v → Contains (occurrences t) v → ⊥) → closed_in vs x t ≡ t
closing_stays vs x t h =
    let es = constants_for vs x.constants in
    same_by_agreement es [] t
    (all_from (AgreeOn es []) (occurrences t) (λ v c. not_replaced vs x.constants v (λ d. h v d c)))
    ∙ substituted_nil t
