-- The boxes of a level for constants are closed, the innermost first.
use Rattle.std.specs.Prelude.{◌≡◌, ℕ, List, [], ◌∷◌, ◌++◌, length, true, All, Contains, refl}
use Rattle.std.proofs.Common.{ap, ap₂, arith, subst, sym, ◌∙◌}
use Rattle.std.proofs.lemmas.List.{append_assoc, append-nil}
use Rattle.std.proofs.lemmas.List.Elements.{All-contains}
use Rattle.larch_base.proofs.Members.{contains_here, contains_right}
use Rattle.larch_term.specs.Operator.{PlainOperator}
use Rattle.larch_term.specs.Sorts.{sort_of}
use Rattle.larch_term.specs.Tree.{Tree}
use Rattle.larch_term.specs.Truth.{truth}
use Rattle.larch_term.specs.declared.statement.Statement.{Statement}
use Rattle.larch_term.specs.declared.statement.Theory.{Theory}
use Rattle.larch_derive.specs.Builder.{boxes_in}
use Rattle.larch_derive.specs.Predicates.{Grows, HasEquation, Known}
use Rattle.larch_derive.specs.declared.builder.Builder.{Builder}
use Rattle.larch_derive.specs.declared.open_box.OpenBox.{OpenBox}
use Rattle.larch_derive.proofs.Growth.{known_stands}
use Rattle.larch_prove_invariant.specs.DeriveBoxesBoxes.{AreOwnConstants}
use Rattle.larch_prove_invariant.specs.MethodsClauses.{IsSupposing}
use Rattle.larch_prove_invariant.proofs.MethodsSharing.{value_known}
use Rattle.larch_prove_invariant.specs.ProveMeaningLevels.{Level}
use Rattle.larch_prove_boxes.specs.BoxLists.{boxes_with}
use Rattle.larch_prove_invariant.specs.Book.{Kept, SupposingBox, own_boxes}
use Rattle.larch_prove_invariant.specs.Holding.{HoldsLevels}
use Rattle.larch_prove_invariant.specs.Leaving.{Leaving}
use Rattle.larch_prove_invariant.proofs.Firsts.{extra_own, first_known}
use Rattle.larch_prove_invariant.proofs.Instances.{equation_sorts}
use Rattle.larch_prove_invariant.proofs.Left.{leaving_grows, leaving_opened}

-- ---- lists of boxes

no_boxes : (xs : List SupposingBox) → boxes_with xs ≡ [] → xs ≡ []
no_boxes [] e = refl
no_boxes (x ∷ xs) e = cc

tails_same : (x y : OpenBox) (xs ys : List OpenBox) → x ∷ xs ≡ y ∷ ys → xs ≡ ys
tails_same x y xs ys e = cc

-- boxes of which the last is known
record LastBox (xs : List SupposingBox) (bs : List OpenBox) (b : OpenBox) : Type 0 where
  before : List SupposingBox
  last : SupposingBox
  order : xs ≡ before ++ last ∷ []
  outer : boxes_with before ≡ bs
  innermost : last.box ≡ b

last_box : (xs : List SupposingBox) (bs : List OpenBox) (b : OpenBox) → boxes_with xs ≡ bs ++ b ∷ [] → LastBox xs bs b
last_box [] [] b e = cc
last_box [] (c ∷ bs) b e = cc
last_box (x ∷ []) [] b e = record { before = []; last = x; order = refl; outer = refl; innermost = cc }
last_box (x ∷ y ∷ xs) [] b e = cc
last_box (x ∷ xs) (c ∷ bs) b e =
    let i = last_box xs bs b (tails_same x.box c (boxes_with xs) (bs ++ b ∷ []) e) in
    record {
      before = x ∷ i.before;
      last = i.last;
      order = ap (λ ys. x ∷ ys) i.order;
      outer = ap₂ (λ y ys. y ∷ ys) (heads_same x.box c (boxes_with xs) (bs ++ b ∷ []) e) i.outer;
      innermost = i.innermost;
    }
  where
    heads_same : (x y : OpenBox) (xs ys : List OpenBox) → x ∷ xs ≡ y ∷ ys → x ≡ y
    heads_same x y xs ys e = cc

-- ---- closing

-- the outer ones of a level's boxes for constants are open still, and a line says the equation in them
pub record OpenStill (t : Theory) (s : Statement) (b : Builder) (k : Kept) (ks : List Kept) (bs : List OpenBox) (n : ℕ)
    (l r : Tree) : Type 0 where
  pub still : List SupposingBox
  pub behind : List SupposingBox
  pub order : k.book.extras ≡ still ++ behind
  pub are_open : boxes_with still ≡ bs
  pub leaving : Leaving t s b (k.book.entrance ++ still) ks
  pub says : HasEquation b n l r

pub all_open : (t : Theory) (s : Statement) (b : Builder) (k : Kept) (ks : List Kept) (bs : List OpenBox) (n : ℕ)
    (l r : Tree) → boxes_with k.book.extras ≡ bs → Leaving t s b (own_boxes k.book) ks → HasEquation b n l r
    → OpenStill t s b k ks bs n l r
all_open t s b k ks bs n l r e m h = record {
  still = k.book.extras;
  behind = [];
  order = sym (append-nil k.book.extras);
  are_open = e;
  leaving = m;
  says = h;
}

-- what is said of a box that is left, and that the builder outside of it has grown
abbrev SaysOutside : Builder → Builder → OpenBox → ℕ → ℕ → Tree → Tree → Type 0
SaysOutside b c x n m l r =
    (a : Builder) → IsSupposing a b x [] → AreOwnConstants (boxes_in a) x → HasEquation b n l r → Known a l
    → Known a r → sort_of l ≡ sort_of r → HasEquation c m l r

abbrev GrowsOutside : Builder → Builder → OpenBox → ℕ → Tree → Tree → Type 0
GrowsOutside b c x n l r =
    (a : Builder) → IsSupposing a b x [] → AreOwnConstants (boxes_in a) x → HasEquation b n l r → Known a l
    → Known a r → Grows a c

pub one_closed : (t : Theory) (s : Statement) (h : Builder) (cs : List PlainOperator) (levels : List Level) (k : Kept)
    (ks : List Kept) (b c : Builder) (bs : List OpenBox) (x : OpenBox) (n m : ℕ) (l r : Tree)
    → HoldsLevels t s h cs levels (k ∷ ks) → All (λ y. y.hypotheses ≡ []) k.book.extras → l ≡ k.book.first
    → r ≡ truth → SaysOutside b c x n m l r → GrowsOutside b c x n l r → OpenStill t s b k ks (bs ++ x ∷ []) n l r
    → OpenStill t s c k ks bs m l r
one_closed t s h cs levels k ks b c bs x n m l r w none e q says grows z =
    let i = last_box z.still bs x z.are_open in
    let xs = i.before in
    let y = i.last in
    let own = k.book.entrance in
    let order : k.book.extras ≡ xs ++ y ∷ z.behind =
    z.order ∙ (ap (λ ys. ys ++ z.behind) i.order ∙ append_assoc xs (y ∷ []) z.behind) in
    let there : Leaving t s b ((own ++ xs) ++ y ∷ []) ks =
    subst (λ ys. Leaving t s b ys ks) (ap (λ ys. own ++ ys) i.order ∙ sym (append_assoc own xs (y ∷ []))) z.leaving in
    let o = leaving_opened t s b (own ++ xs) y ks there in
    let a = o.0 in
    let among = subst (λ ys. Contains ys y) (sym order)
    (contains_right xs (y ∷ z.behind) y (contains_here y z.behind)) in
    let bare : y.hypotheses ≡ [] = All-contains (λ (v : SupposingBox). v.hypotheses ≡ []) k.book.extras y none among in
    let supposing : IsSupposing a b x [] =
    subst (IsSupposing a b x) bare (subst (λ v. IsSupposing a b v y.hypotheses) i.innermost o.1.1) in
    let made = subst (AreOwnConstants (boxes_in a)) i.innermost
    (extra_own t s h a cs levels k ks xs z.behind y w order o.1.0) in
    let first = subst (Known a) (sym e) (first_known t s h a cs levels k ks xs (y ∷ z.behind) w order o.1.0) in
    let true_known = subst (Known a) (sym q) (value_known a true (known_stands a l first)) in
    record {
      still = xs;
      behind = y ∷ z.behind;
      order = order;
      are_open = i.outer;
      leaving = leaving_grows t s a c (own ++ xs) ks (grows a supposing made z.says first true_known) o.1.0;
      says = says a supposing made z.says first true_known (sym (equation_sorts b n l r z.says));
    }

none_left : (bs : List OpenBox) → length bs ≡ 0 → bs ≡ []
none_left [] e = refl
none_left (b ∷ bs) e = absurd (omega (arith, e))

pub all_closed : (t : Theory) (s : Statement) (b : Builder) (k : Kept) (ks : List Kept) (bs : List OpenBox) (n : ℕ)
    (l r : Tree) → length bs ≡ 0 → OpenStill t s b k ks bs n l r
    → Leaving t s b k.book.entrance ks × HasEquation b n l r
all_closed t s b k ks bs n l r e z =
    let none = no_boxes z.still (z.are_open ∙ none_left bs e) in (
      subst (λ ys. Leaving t s b ys ks)
          (ap (λ ys. k.book.entrance ++ ys) none ∙ append-nil k.book.entrance) z.leaving,
      z.says,
    )

-- the same of all levels of which the boxes are
abbrev pub GoesOn : Builder → List OpenBox → ℕ → Tree → Tree → Builder → List OpenBox → ℕ → Type 0
GoesOn a xs m l r b bs n =
    (t : Theory) (s : Statement) (h : Builder) (cs : List PlainOperator) (levels : List Level) (k : Kept)
    (ks : List Kept) → HoldsLevels t s h cs levels (k ∷ ks) → boxes_with k.book.extras ≡ xs
    → All (λ y. y.hypotheses ≡ []) k.book.extras → Leaving t s a (own_boxes k.book) ks → l ≡ k.book.first → r ≡ truth
    → HasEquation a m l r → OpenStill t s b k ks bs n l r
