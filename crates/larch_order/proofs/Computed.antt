-- The function computes the relation.
use Rattle.std.proofs.Common.{◌≡◌, ℕ, zero, suc, ◌+◌, ◌<◌, ◌⊎◌, IsTrue, ◌↔◌, true, List, [], ◌∷◌, Contains, refl, sym}
use Rattle.std.proofs.Common.{◌∙◌, ap, subst, inl, inr, ⊎_elim, arith, Bool}
use Rattle.std.proofs.lemmas.Bool.{true≢false}
use Rattle.larch_base.proofs.Members.{contains_here, contains_later, contains_cases, contains_none}
use Rattle.larch_base.specs.declared.way.Way.{Way}
use Rattle.larch_base.specs.declared.way.Way.TheVariants.{LeftToRight, RightToLeft, Multiset}
use Rattle.larch_term.specs.Operator.{PlainOperator}
use Rattle.larch_term.specs.Tree.{Tree, Forest, var, app, none, more, list_of, nodes}
use Rattle.larch_order.specs.declared.precedence.Ranked.{Ranked}
use Rattle.larch_order.specs.Precedence.{above, status_of}
use Rattle.larch_order.specs.Greater.{Greater, AtLeast, ListsGreater, Beaten, by_argument, by_precedence, by_status}
use Rattle.larch_order.specs.Greater.{same, higher, first_higher, first_equal, rest_equal, rest_higher, as_multisets}
use Rattle.larch_order.specs.Greater.{beaten, greater, first_greater, last_greater}
use Rattle.larch_order.proofs.Multisets.{In, Remains, remains_in}
use Rattle.larch_order.proofs.Above.{HeadCases, ListsAbove, above_by_argument, above_by_heads, above_cases, heads_cases}
use Rattle.larch_order.proofs.Above.{heads_from, argument_nodes, remains_told, remains_from}
use Rattle.larch_order.proofs.Transitive.{not_above, same_forests, first_cases, first_same, first_other, last_cases}
use Rattle.larch_order.proofs.Transitive.{last_here, last_before, last_irreflexive}
use Rattle.larch_order.proofs.Irreflexive.{apart}

in_contained : (xs : List Tree) (x : Tree) → Contains xs x → In xs x
in_contained [] x c = absurd (contains_none x c)
in_contained (y ∷ ys) x c = ⊎_elim (λ e. inl e) (λ d. inr (in_contained ys x d)) (contains_cases y x ys c)

contained_in : (xs : List Tree) (x : Tree) → In xs x → Contains xs x
contained_in [] x i = absurd i
contained_in (y ∷ ys) x (inl e) = subst (Contains (y ∷ ys)) e (contains_here y ys)
contained_in (y ∷ ys) x (inr i) = contains_later y x ys (contained_in ys x i)

mutual
  -- what is greater is computed to be
  pub computed : {ranks : List Ranked} {s t : Tree} → Greater ranks s t → greater ranks s t ≡ true
  computed (by_argument {ranks} {f} {ss} {s} {t} c r) =
      above_by_argument ranks f ss t (s, in_contained (list_of ss) s c, at_least r)
  computed (by_precedence {ranks} {f} {g} {ss} {ts} a h) =
      above_by_heads ranks f ss g ts
      (heads_from ranks f ss g (list_of ts)
      (inl (λ e. not_above ranks f (subst (λ x. above ranks f x ≡ true) (sym e) a), a)))
      (λ u i. computed (h u (contained_in (list_of ts) u i)))
  computed (by_status {ranks} {f} {ss} {ts} l h) =
      above_by_heads ranks f ss f ts (heads_from ranks f ss f (list_of ts) (inr (refl, lists_computed l)))
      (λ u i. computed (h u (contained_in (list_of ts) u i)))

  at_least : {ranks : List Ranked} {s t : Tree} → AtLeast ranks s t → (s ≡ t) ⊎ (greater ranks s t ≡ true)
  at_least same = inl refl
  at_least (higher g) = inr (computed g)

  lists_computed : {ranks : List Ranked} {w : Way} {ss ts : Forest} → ListsGreater ranks w ss ts
      → ListsAbove ranks w ss (list_of ts)
  lists_computed (first_higher {ranks} {s} {t} {ss} {ts} g) =
      first_other ranks s t ss (list_of ts) (apart ranks s t (computed g)) (computed g)
  lists_computed (first_equal {ranks} {s} {ss} {ts} l) = first_same ranks s s ss (list_of ts) refl (lists_computed l)
  lists_computed (rest_equal {ranks} {s} {t} {ss} g) =
      last_here ranks s t ss (list_of ss) refl (apart ranks s t (computed g)) (computed g)
  lists_computed (rest_higher {ranks} {s} {t} {ss} {ts} l) =
      last_before ranks s t ss (list_of ts)
      (λ e. last_irreflexive ranks ss (subst (λ us. last_greater ranks ss us ≡ true) (sym e) (lists_computed l)))
      (lists_computed l)
  lists_computed (as_multisets {ranks} {ss} {ts} s r h) = (
    (s, remains_told ranks (list_of ss) (list_of ts) s r),
    λ t lt. beaten_computed (h t (remains_from ranks (list_of ts) (list_of ss) t lt)),
  )

  beaten_computed : {ranks : List Ranked} {ss ts : Forest} {t : Tree} → Beaten ranks ss ts t
      → (x : Tree) × Remains (list_of ss) (list_of ts) x × (greater ranks x t ≡ true)
  beaten_computed (beaten {ranks} {s} {t} {ss} {ts} r g) =
      (s, remains_told ranks (list_of ss) (list_of ts) s r, computed g)

module _ (ranks : List Ranked) where
  -- what is computed holds between the terms of two lists
  abbrev Shown : Forest → Forest → Type 0
  Shown ss ts = (s t : Tree) → In (list_of ss) s → In (list_of ts) t → greater ranks s t ≡ true → Greater ranks s t

  first_shown : (ss ts : Forest) → Shown ss ts → first_greater ranks ss (list_of ts) ≡ true
      → ListsGreater ranks LeftToRight ss ts
  first_shown none ts k e = absurd (true≢false (sym e))
  first_shown (more s ss) none k e = absurd (true≢false (sym e))
  first_shown (more s ss) (more t ts) k e =
      ⊎_elim
      (λ p. subst (λ x. ListsGreater ranks LeftToRight (more s ss) (more x ts)) p.0
      (first_equal (first_shown ss ts (λ x y i j. k x y (inr i) (inr j)) p.1)))
      (λ p. first_higher (k s t (inl refl) (inl refl) p.1))
      (first_cases ranks s t ss (list_of ts) e)

  last_shown : (ss ts : Forest) → Shown ss ts → last_greater ranks ss (list_of ts) ≡ true
      → ListsGreater ranks RightToLeft ss ts
  last_shown none ts k e = absurd (true≢false (sym e))
  last_shown (more s ss) none k e = absurd (true≢false (sym e))
  last_shown (more s ss) (more t ts) k e =
      ⊎_elim
      (λ p. subst (λ us. ListsGreater ranks RightToLeft (more s ss) (more t us)) (same_forests ss ts p.0)
      (rest_equal (k s t (inl refl) (inl refl) p.2)))
      (λ p. rest_higher (last_shown ss ts (λ x y i j. k x y (inr i) (inr j)) p.1))
      (last_cases ranks s t ss (list_of ts) e)

  lists_shown : (w : Way) (ss ts : Forest) → Shown ss ts → ListsAbove ranks w ss (list_of ts)
      → ListsGreater ranks w ss ts
  lists_shown LeftToRight ss ts k a = first_shown ss ts k a
  lists_shown RightToLeft ss ts k a = last_shown ss ts k a
  lists_shown Multiset ss ts k m =
      as_multisets m.0.0 (remains_from ranks (list_of ss) (list_of ts) m.0.0 m.0.1)
      (λ t r.
      let lt = remains_told ranks (list_of ts) (list_of ss) t r in
      let b = m.1 t lt in
      beaten (remains_from ranks (list_of ss) (list_of ts) b.0 b.1)
      (k b.0 t (remains_in (list_of ss) (list_of ts) b.0 b.1) (remains_in (list_of ts) (list_of ss) t lt) b.2))

  heads_shown : (f g : PlainOperator) (ss ts : Forest) → Shown ss ts → HeadCases ranks f ss g (list_of ts)
      → ((t : Tree) → Contains (list_of ts) t → Greater ranks (app f ss) t) → Greater ranks (app f ss) (app g ts)
  heads_shown f g ss ts k (inl a) h = by_precedence a.1 h
  heads_shown f g ss ts k (inr a) h =
      subst (λ x. Greater ranks (app f ss) (app x ts)) a.0 (by_status (lists_shown (status_of ranks f) ss ts k a.1) h)

  -- by induction on how many nodes the two terms have together
  shown_below : (n : ℕ) (s t : Tree) → nodes s + nodes t < n → greater ranks s t ≡ true → Greater ranks s t
  shown_below zero s t lt e = absurd (omega (arith, lt))
  shown_below (suc n) (var m r) t lt e = absurd (true≢false (sym e))
  shown_below (suc n) (app f ss) t lt e =
      ⊎_elim
      (λ r. by_argument (contained_in (list_of ss) r.0 r.1)
      (⊎_elim (λ p. subst (AtLeast ranks r.0) p same)
      (λ d. higher (shown_below n r.0 t (omega (arith, lt, argument_nodes ss r.0 r.1)) d)) r.2))
      (λ r. subst (Greater ranks (app f ss)) (sym r.2)
      (heads_shown f r.0 ss r.1
      (λ x y i j. shown_below n x y (omega (arith, lt, ap nodes r.2, argument_nodes ss x i, argument_nodes r.1 y j)))
      (heads_cases ranks f ss r.0 (list_of r.1) r.3)
      (λ u c.
      let i = in_contained (list_of r.1) u c in
      shown_below n (app f ss) u (omega (arith, lt, ap nodes r.2, argument_nodes r.1 u i)) (r.4 u i))))
      (above_cases ranks f ss t e)

  pub shown : (s t : Tree) → greater ranks s t ≡ true → Greater ranks s t
  shown s t e = shown_below (suc (nodes s + nodes t)) s t (omega arith) e

pub is_computed : (ranks : List Ranked) (s t : Tree) → IsTrue (greater ranks s t) ↔ Greater ranks s t
is_computed ranks s t = (shown ranks s t, λ g. computed g)

pub greater_told : (ranks : List Ranked) (s t : Tree) (b : Bool) → b ≡ greater ranks s t → IsTrue b ↔ Greater ranks s t
greater_told ranks s t b e = (λ h. shown ranks s t (sym e ∙ h), λ g. e ∙ computed g)
