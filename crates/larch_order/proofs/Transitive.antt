-- What is above a term that is above a third is above the third, where the ordering has no smaller term above itself.
use Rattle.std.proofs.Common.{◌≡◌, ℕ, zero, suc, ◌+◌, ◌<◌, ◌≤◌, ◌⊎◌, Bool, true, not, ◌&&◌, List, ◌∷◌, Option, Some}
use Rattle.std.proofs.Common.{None, refl, sym, ◌∙◌, ap, subst, inl, inr, ⊎_elim, arith}
use Rattle.std.proofs.lemmas.Bool.{cases_Bool, cond-true, cond-false, false_from_ne_true, true≢false, and_parts}
use Rattle.std.proofs.lemmas.Bool.{and_from, not_from_false, ltb-true, lt-ltb}
use Rattle.std.proofs.lemmas.Slice.Eq.{slice_eq-Decides}
use Rattle.std.specs.Bool.{Decides}
use Rattle.std.specs.Cmp.Lexicographic.{pointwise}
use Rattle.larch_term.specs.Operator.{PlainOperator}
use Rattle.larch_term.specs.Tree.{Tree, Forest, var, app, none, more, list_of, forest_of, nodes}
use Rattle.larch_term.proofs.TreeLists.{forest_of-list_of}
use Rattle.larch_order.specs.declared.precedence.Ranked.{Ranked}
use Rattle.larch_base.specs.declared.way.Way.{Way}
use Rattle.larch_base.specs.declared.way.Way.TheVariants.{LeftToRight, RightToLeft, Multiset}
use Rattle.larch_term.specs.Equality.{same_tree}
use Rattle.larch_order.specs.Precedence.{above, height_of, is_higher, status_of}
use Rattle.larch_order.specs.Greater.{greater, first_greater, last_greater, heads_beat}
use Rattle.larch_term.proofs.Decided.{tree_Decides}
use Rattle.larch_order.proofs.Multisets.{In, multiset_transitive}
use Rattle.larch_order.proofs.Above.{HeadCases, ListsAbove, above_by_argument, above_by_heads, above_cases, heads_cases}
use Rattle.larch_order.proofs.Above.{heads_from, argument_nodes}

higher_transitive : (p q r : Option ℕ) → is_higher p q ≡ true → is_higher q r ≡ true → is_higher p r ≡ true
higher_transitive None q r a b = absurd (true≢false (sym a))
higher_transitive (Some i) None r a b = absurd (true≢false (sym a))
higher_transitive (Some i) (Some j) None a b = absurd (true≢false (sym b))
higher_transitive (Some i) (Some j) (Some k) a b = lt-ltb k i (omega (arith, ltb-true j i a, ltb-true k j b))

not_higher : (p : Option ℕ) → is_higher p p ≡ true → ⊥
not_higher None a = true≢false (sym a)
not_higher (Some i) a = omega (arith, ltb-true i i a)

lists_Decide : (ss ts : List Tree) → Decides (pointwise same_tree ss ts) (ss ≡ ts)
lists_Decide ss ts = slice_eq-Decides tree_Decides ss ts (pointwise same_tree ss ts) refl

pub same_forests : (ss ts : Forest) → list_of ss ≡ list_of ts → ss ≡ ts
same_forests ss ts e = sym (forest_of-list_of ss) ∙ ap forest_of e ∙ forest_of-list_of ts

module _ (ranks : List Ranked) where
  pub above_transitive : (f g h : PlainOperator) → above ranks f g ≡ true → above ranks g h ≡ true
      → above ranks f h ≡ true
  above_transitive f g h a b = higher_transitive (height_of ranks f) (height_of ranks g) (height_of ranks h) a b

  pub not_above : (f : PlainOperator) → above ranks f f ≡ true → ⊥
  not_above f a = not_higher (height_of ranks f) a

  -- the first place at which two lists differ
  pub first_cases : (s t : Tree) (ss : Forest) (ts : List Tree) → first_greater ranks (more s ss) (t ∷ ts) ≡ true
      → ((s ≡ t) × (first_greater ranks ss ts ≡ true)) ⊎ ((s ≡ t → ⊥) × (greater ranks s t ≡ true))
  first_cases s t ss ts e =
      ⊎_elim (λ h. inl (
        (tree_Decides s t).0 h,
        sym (cond-true (same_tree s t) (first_greater ranks ss ts) (greater ranks s t) h) ∙ e,
      ))
      (λ h. inr (
        λ p. true≢false (sym ((tree_Decides s t).1 p) ∙ h),
        sym (cond-false (same_tree s t) (first_greater ranks ss ts) (greater ranks s t) h) ∙ e,
      ))
      (cases_Bool (same_tree s t))

  pub first_same : (s t : Tree) (ss : Forest) (ts : List Tree) → s ≡ t → first_greater ranks ss ts ≡ true
      → first_greater ranks (more s ss) (t ∷ ts) ≡ true
  first_same s t ss ts e h =
      cond-true (same_tree s t) (first_greater ranks ss ts) (greater ranks s t) ((tree_Decides s t).1 e) ∙ h

  pub first_other : (s t : Tree) (ss : Forest) (ts : List Tree) → (s ≡ t → ⊥) → greater ranks s t ≡ true
      → first_greater ranks (more s ss) (t ∷ ts) ≡ true
  first_other s t ss ts n h =
      cond-false (same_tree s t) (first_greater ranks ss ts) (greater ranks s t)
      (false_from_ne_true (same_tree s t) (λ e. n ((tree_Decides s t).0 e))) ∙ h

  -- the last place at which two lists differ
  pub last_cases : (s t : Tree) (ss : Forest) (ts : List Tree) → last_greater ranks (more s ss) (t ∷ ts) ≡ true
      → ((list_of ss ≡ ts) × (s ≡ t → ⊥) × (greater ranks s t ≡ true))
      ⊎ ((list_of ss ≡ ts → ⊥) × (last_greater ranks ss ts ≡ true))
  last_cases s t ss ts e =
      let b : Bool = pointwise same_tree (list_of ss) ts in
      let d : Decides b (list_of ss ≡ ts) = lists_Decide (list_of ss) ts in
      let here : Bool = not (same_tree s t) && greater ranks s t in
      ⊎_elim
      (λ h.
      let p =
      and_parts (not (same_tree s t)) (greater ranks s t)
      (sym (cond-true b here (last_greater ranks ss ts) h) ∙ e) in
      inl (d.0 h, λ q. true≢false (sym p.0 ∙ ap not ((tree_Decides s t).1 q)), p.1))
      (λ h. inr (λ q. true≢false (sym (d.1 q) ∙ h), sym (cond-false b here (last_greater ranks ss ts) h) ∙ e))
      (cases_Bool b)

  pub last_here : (s t : Tree) (ss : Forest) (ts : List Tree) → list_of ss ≡ ts → (s ≡ t → ⊥) → greater ranks s t ≡ true
      → last_greater ranks (more s ss) (t ∷ ts) ≡ true
  last_here s t ss ts e n h =
      cond-true (pointwise same_tree (list_of ss) ts) (not (same_tree s t) && greater ranks s t)
      (last_greater ranks ss ts) ((lists_Decide (list_of ss) ts).1 e)
      ∙ and_from (not (same_tree s t)) (greater ranks s t)
      (not_from_false (same_tree s t) (false_from_ne_true (same_tree s t) (λ q. n ((tree_Decides s t).0 q)))) h

  pub last_before : (s t : Tree) (ss : Forest) (ts : List Tree) → (list_of ss ≡ ts → ⊥)
      → last_greater ranks ss ts ≡ true → last_greater ranks (more s ss) (t ∷ ts) ≡ true
  last_before s t ss ts n h =
      cond-false (pointwise same_tree (list_of ss) ts) (not (same_tree s t) && greater ranks s t)
      (last_greater ranks ss ts)
      (false_from_ne_true (pointwise same_tree (list_of ss) ts) (λ q. n ((lists_Decide (list_of ss) ts).0 q))) ∙ h

  -- a list isn't above itself
  pub first_irreflexive : (ss : Forest) → first_greater ranks ss (list_of ss) ≡ true → ⊥
  first_irreflexive none e = true≢false (sym e)
  first_irreflexive (more s ss) e =
      ⊎_elim (λ h. first_irreflexive ss h.1) (λ h. h.0 refl) (first_cases s s ss (list_of ss) e)

  pub last_irreflexive : (ss : Forest) → last_greater ranks ss (list_of ss) ≡ true → ⊥
  last_irreflexive none e = true≢false (sym e)
  last_irreflexive (more s ss) e = ⊎_elim (λ h. h.1 refl) (λ h. h.0 refl) (last_cases s s ss (list_of ss) e)

  pub lists_irreflexive : (w : Way) (ss : Forest) → ListsAbove ranks w ss (list_of ss) → ⊥
  lists_irreflexive LeftToRight ss e = first_irreflexive ss e
  lists_irreflexive RightToLeft ss e = last_irreflexive ss e
  lists_irreflexive Multiset ss m = omega (arith, m.0.1)

  -- no argument is above itself
  abbrev NoneAboveItself : Forest → Type 0
  NoneAboveItself ss = (x : Tree) → In (list_of ss) x → greater ranks x x ≡ true → ⊥

  -- the ordering is transitive where the terms are of three lists of arguments
  abbrev Transitive : Forest → Forest → Forest → Type 0
  Transitive ss ts us =
      (x y z : Tree) → In (list_of ss) x → In (list_of ts) y → In (list_of us) z → greater ranks x y ≡ true
      → greater ranks y z ≡ true → greater ranks x z ≡ true

  first_transitive : (ss ts us : Forest) → NoneAboveItself ss → Transitive ss ts us
      → first_greater ranks ss (list_of ts) ≡ true → first_greater ranks ts (list_of us) ≡ true
      → first_greater ranks ss (list_of us) ≡ true
  first_transitive none ts us irr tr a b = absurd (true≢false (sym a))
  first_transitive (more s ss) none us irr tr a b = absurd (true≢false (sym b))
  first_transitive (more s ss) (more t ts) none irr tr a b = absurd (true≢false (sym b))
  first_transitive (more s ss) (more t ts) (more u us) irr tr a b =
      ⊎_elim
      (λ p. ⊎_elim
      (λ q. first_same s u ss (list_of us) (p.0 ∙ q.0)
      (first_transitive ss ts us (λ x i. irr x (inr i)) (λ x y z i j k. tr x y z (inr i) (inr j) (inr k)) p.1 q.1))
      (λ q. first_other s u ss (list_of us) (λ e. q.0 (sym p.0 ∙ e))
      (subst (λ x. greater ranks x u ≡ true) (sym p.0) q.1))
      (first_cases t u ts (list_of us) b))
      (λ p. ⊎_elim
      (λ q. first_other s u ss (list_of us) (λ e. p.0 (e ∙ sym q.0)) (subst (λ x. greater ranks s x ≡ true) q.0 p.1))
      (λ q.
      let r : greater ranks s u ≡ true = tr s t u (inl refl) (inl refl) (inl refl) p.1 q.1 in
      first_other s u ss (list_of us) (λ e. irr s (inl refl) (subst (λ x. greater ranks s x ≡ true) (sym e) r)) r)
      (first_cases t u ts (list_of us) b))
      (first_cases s t ss (list_of ts) a)

  last_transitive : (ss ts us : Forest) → NoneAboveItself ss → Transitive ss ts us
      → last_greater ranks ss (list_of ts) ≡ true → last_greater ranks ts (list_of us) ≡ true
      → last_greater ranks ss (list_of us) ≡ true
  last_transitive none ts us irr tr a b = absurd (true≢false (sym a))
  last_transitive (more s ss) none us irr tr a b = absurd (true≢false (sym b))
  last_transitive (more s ss) (more t ts) none irr tr a b = absurd (true≢false (sym b))
  last_transitive (more s ss) (more t ts) (more u us) irr tr a b =
      ⊎_elim
      (λ p. ⊎_elim
      (λ q.
      let r : greater ranks s u ≡ true = tr s t u (inl refl) (inl refl) (inl refl) p.2 q.2 in
      last_here s u ss (list_of us) (p.0 ∙ q.0)
      (λ e. irr s (inl refl) (subst (λ x. greater ranks s x ≡ true) (sym e) r)) r)
      (λ q. last_before s u ss (list_of us) (λ e. q.0 (sym p.0 ∙ e))
      (subst (λ l. last_greater ranks l (list_of us) ≡ true) (sym (same_forests ss ts p.0)) q.1))
      (last_cases t u ts (list_of us) b))
      (λ p. ⊎_elim
      (λ q. last_before s u ss (list_of us) (λ e. p.0 (e ∙ sym q.0))
      (subst (λ l. last_greater ranks ss l ≡ true) q.0 p.1))
      (λ q.
      let r : last_greater ranks ss (list_of us) ≡ true =
      last_transitive ss ts us (λ x i. irr x (inr i)) (λ x y z i j k. tr x y z (inr i) (inr j) (inr k)) p.1 q.1 in
      last_before s u ss (list_of us)
      (λ e. last_irreflexive ss (subst (λ l. last_greater ranks ss l ≡ true) (sym e) r)) r)
      (last_cases t u ts (list_of us) b))
      (last_cases s t ss (list_of ts) a)

  lists_transitive : (w : Way) (ss ts us : Forest) → NoneAboveItself ss → Transitive ss ts us → Transitive ss us ts
      → ListsAbove ranks w ss (list_of ts) → ListsAbove ranks w ts (list_of us) → ListsAbove ranks w ss (list_of us)
  lists_transitive LeftToRight ss ts us irr down across a b = first_transitive ss ts us irr down a b
  lists_transitive RightToLeft ss ts us irr down across a b = last_transitive ss ts us irr down a b
  lists_transitive Multiset ss ts us irr down across a b =
      multiset_transitive (greater ranks) (list_of ss) (list_of ts) (list_of us)
      (λ x i. false_from_ne_true (greater ranks x x) (irr x i)) down across a b

  heads_transitive : (f g h : PlainOperator) (ss ts us : Forest) → NoneAboveItself ss → Transitive ss ts us
      → Transitive ss us ts
      → HeadCases ranks f ss g (list_of ts) → HeadCases ranks g ts h (list_of us) → HeadCases ranks f ss h (list_of us)
  heads_transitive f g h ss ts us irr down across (inl a) (inl b) =
      let c : above ranks f h ≡ true = above_transitive f g h a.1 b.1 in
      inl (λ e. not_above f (above_transitive f g f a.1 (subst (λ x. above ranks g x ≡ true) (sym e) b.1)), c)
  heads_transitive f g h ss ts us irr down across (inl a) (inr b) =
      inl (λ e. a.0 (e ∙ sym b.0), subst (λ x. above ranks f x ≡ true) b.0 a.1)
  heads_transitive f g h ss ts us irr down across (inr a) (inl b) =
      inl (λ e. b.0 (sym a.0 ∙ e), subst (λ x. above ranks x h ≡ true) (sym a.0) b.1)
  heads_transitive f g h ss ts us irr down across (inr a) (inr b) =
      inr (
        a.0 ∙ b.0,
        lists_transitive (status_of ranks f) ss ts us irr down across a.1
            (subst (λ x. ListsAbove ranks (status_of ranks x) ts (list_of us)) (sym a.0) b.1),
      )

  module _ (n : ℕ) (irr : (t : Tree) → nodes t < n → greater ranks t t ≡ true → ⊥) where
    abbrev Smaller : ℕ → Type 0
    Smaller k =
        (x y z : Tree) → nodes x ≤ n → nodes x + nodes y + nodes z < k → greater ranks x y ≡ true
        → greater ranks y z ≡ true → greater ranks x z ≡ true

    -- the first two terms are applications whose heads decide, and the last two too
    from_both : (k : ℕ) → Smaller k → (f g h : PlainOperator) (ss ts us : Forest) → nodes (app f ss) ≤ n
        → nodes (app f ss) + nodes (app g ts) + nodes (app h us) < suc k
        → heads_beat ranks f ss g (list_of ts) ≡ true → heads_beat ranks g ts h (list_of us) ≡ true
        → greater ranks (app f ss) (app g ts) ≡ true
        → ((u : Tree) → In (list_of us) u → greater ranks (app g ts) u ≡ true)
        → greater ranks (app f ss) (app h us) ≡ true
    from_both k rec f g h ss ts us le lt a b p all =
        above_by_heads ranks f ss h us
        (heads_from ranks f ss h (list_of us)
        (heads_transitive f g h ss ts us
        (λ x i. irr x (omega (arith, le, argument_nodes ss x i)))
        (λ x y z i j l. rec x y z (omega (arith, le, argument_nodes ss x i))
        (omega (arith, lt, argument_nodes ss x i, argument_nodes ts y j, argument_nodes us z l)))
        (λ x y z i j l. rec x y z (omega (arith, le, argument_nodes ss x i))
        (omega (arith, lt, argument_nodes ss x i, argument_nodes us y j, argument_nodes ts z l)))
        (heads_cases ranks f ss g (list_of ts) a) (heads_cases ranks g ts h (list_of us) b)))
        (λ u i. rec (app f ss) (app g ts) u le (omega (arith, lt, argument_nodes us u i)) p (all u i))

    -- the first two are
    from_heads : (k : ℕ) → Smaller k → (f g : PlainOperator) (ss ts : Forest) (c : Tree) → nodes (app f ss) ≤ n
        → nodes (app f ss) + nodes (app g ts) + nodes c < suc k
        → heads_beat ranks f ss g (list_of ts) ≡ true
        → ((u : Tree) → In (list_of ts) u → greater ranks (app f ss) u ≡ true)
        → greater ranks (app f ss) (app g ts) ≡ true → greater ranks (app g ts) c ≡ true
        → greater ranks (app f ss) c ≡ true
    from_heads k rec f g ss ts c le lt a all p q =
        ⊎_elim
        (λ r. ⊎_elim (λ e. subst (λ x. greater ranks (app f ss) x ≡ true) e (all r.0 r.1))
        (λ d. rec (app f ss) r.0 c le (omega (arith, lt, argument_nodes ts r.0 r.1)) (all r.0 r.1) d) r.2)
        (λ r. subst (λ x. greater ranks (app f ss) x ≡ true) (sym r.2)
        (from_both k rec f g r.0 ss ts r.1 le (omega (arith, lt, ap nodes r.2)) a r.3 p r.4))
        (above_cases ranks g ts c q)

    -- by induction on how many nodes the three terms have together
    pub transitive_below : (k : ℕ) → Smaller k
    transitive_below zero a b c le lt p q = absurd (omega (arith, lt))
    transitive_below (suc k) (var m s) b c le lt p q = absurd (true≢false (sym p))
    transitive_below (suc k) (app f ss) b c le lt p q =
        ⊎_elim
        (λ r. above_by_argument ranks f ss c (
          r.0,
          r.1,
          inr (⊎_elim (λ e. subst (λ x. greater ranks x c ≡ true) (sym e) q)
              (λ d. transitive_below k r.0 b c (omega (arith, le, argument_nodes ss r.0 r.1))
              (omega (arith, lt, argument_nodes ss r.0 r.1)) d q) r.2),
        ))
        (λ r. from_heads k (transitive_below k) f r.0 ss r.1 c le (omega (arith, lt, ap nodes r.2)) r.3 r.4
        (subst (λ x. greater ranks (app f ss) x ≡ true) r.2 p) (subst (λ x. greater ranks x c ≡ true) r.2 q))
        (above_cases ranks f ss b p)
