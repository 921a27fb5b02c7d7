-- The ordering as a relation: by which argument, or by which heads, a term is above another.
use Rattle.std.proofs.Common.{◌≡◌, ◌≤◌, ◌⊎◌, Bool, true, false, not, ◌&&◌, ◌||◌, List, [], ◌∷◌, refl, sym, ◌∙◌, ap, inl}
use Rattle.std.proofs.Common.{inr, ⊎_elim, arith}
use Rattle.std.proofs.lemmas.Bool.{cases_Bool, cond-true, cond-false, false_from_ne_true, true≢false, or_cases, or_left}
use Rattle.std.proofs.lemmas.Bool.{or_right, and_parts, and_from, ltb-true, lt-ltb}
use Rattle.std.specs.List.{list_any, list_all}
use Rattle.larch_term.specs.Operator.{PlainOperator}
use Rattle.larch_term.specs.Tree.{Tree, Forest, var, app, none, more, list_of, nodes, nodes_all}
use Rattle.larch_order.specs.declared.precedence.Ranked.{Ranked}
use Rattle.larch_base.specs.declared.way.Way.{Way}
use Rattle.larch_base.specs.declared.way.Way.TheVariants.{LeftToRight, RightToLeft, Multiset}
use Rattle.larch_term.specs.Equality.{same_tree, same_operator}
use Rattle.larch_order.specs.Precedence.{above, status_of}
use Rattle.larch_order.specs.Greater.{greater, count_of, remains, some_reaches, some_beats, first_greater, last_greater}
use Rattle.larch_order.specs.Greater.{multiset_greater, of_status, heads_beat}
use Rattle.larch_term.proofs.Decided.{tree_Decides, operator_Decides}
use Rattle.larch_order.proofs.Ordering.{reached_by}
use Rattle.larch_order.proofs.OrderingLaws.{reaches_is, greater_than_application}
use Rattle.larch_order.proofs.Multisets.{In, count_is, in_from_count, Remains, MultisetAbove}

-- some term of a list, or all of them, pass a test
pub any_found : (p : Tree → Bool) (xs : List Tree) → list_any p xs ≡ true → (x : Tree) × In xs x × (p x ≡ true)
any_found p [] e = absurd (true≢false (sym e))
any_found p (x ∷ xs) e =
    ⊎_elim (λ h. (x, inl refl, h)) (λ h. let r = any_found p xs h in (r.0, inr r.1, r.2))
    (or_cases (p x) (list_any p xs) e)

pub any_from : (p : Tree → Bool) (xs : List Tree) (x : Tree) → In xs x → p x ≡ true → list_any p xs ≡ true
any_from p [] x i e = absurd i
any_from p (y ∷ ys) x (inl h) e = or_left (p y) (list_any p ys) (ap p h ∙ e)
any_from p (y ∷ ys) x (inr i) e = or_right (p y) (list_any p ys) (any_from p ys x i e)

pub all_at : (p : Tree → Bool) (xs : List Tree) → list_all p xs ≡ true → (x : Tree) → In xs x → p x ≡ true
all_at p [] e x i = absurd i
all_at p (y ∷ ys) e x (inl h) = ap p (sym h) ∙ (and_parts (p y) (list_all p ys) e).0
all_at p (y ∷ ys) e x (inr i) = all_at p ys (and_parts (p y) (list_all p ys) e).1 x i

pub all_from : (p : Tree → Bool) (xs : List Tree) → ((x : Tree) → In xs x → p x ≡ true) → list_all p xs ≡ true
all_from p [] h = refl
all_from p (x ∷ xs) h = and_from (p x) (list_all p xs) (h x (inl refl)) (all_from p xs (λ y i. h y (inr i)))

-- how arguments are smaller
pub argument_nodes : (ts : Forest) (t : Tree) → In (list_of ts) t → nodes t ≤ nodes_all ts
argument_nodes none t i = absurd i
argument_nodes (more u us) t (inl e) = omega (arith, ap nodes e)
argument_nodes (more u us) t (inr i) = omega (arith, argument_nodes us t i)

module _ (ranks : List Ranked) where
  -- an argument is a term or above it
  abbrev pub Reaches : Forest → Tree → Type 0
  Reaches ss t = (s : Tree) × In (list_of ss) s × ((s ≡ t) ⊎ (greater ranks s t ≡ true))

  pub reaches_found : (ss : Forest) (t : Tree) → some_reaches ranks ss t ≡ true → Reaches ss t
  reaches_found ss t e =
      let r = any_found (λ s. same_tree s t || greater ranks s t) (list_of ss) (sym (reaches_is ranks ss t) ∙ e) in (
        r.0,
        r.1,
        ⊎_elim (λ h. inl ((tree_Decides r.0 t).0 h)) (λ h. inr h)
            (or_cases (same_tree r.0 t) (greater ranks r.0 t) r.2),
      )

  pub reaches_from : (ss : Forest) (t : Tree) → Reaches ss t → some_reaches ranks ss t ≡ true
  reaches_from ss t r =
      reaches_is ranks ss t
      ∙ any_from (λ s. same_tree s t || greater ranks s t) (list_of ss) r.0 r.1
      (⊎_elim (λ e. or_left (same_tree r.0 t) (greater ranks r.0 t) ((tree_Decides r.0 t).1 e))
      (λ h. or_right (same_tree r.0 t) (greater ranks r.0 t) h) r.2)

  pub above_by_argument : (f : PlainOperator) (ss : Forest) (t : Tree) → Reaches ss t
      → greater ranks (app f ss) t ≡ true
  above_by_argument f ss t r = reached_by ranks f ss t (reaches_from ss t r)

  -- the heads let an application be above a term, and it is above all arguments of that
  abbrev pub HeadsAbove : PlainOperator → Forest → Tree → Type 0
  HeadsAbove f ss t =
      (g : PlainOperator) × (ts : Forest) × (t ≡ app g ts) × (heads_beat ranks f ss g (list_of ts) ≡ true)
      × ((u : Tree) → In (list_of ts) u → greater ranks (app f ss) u ≡ true)

  pub above_by_heads : (f : PlainOperator) (ss : Forest) (g : PlainOperator) (ts : Forest)
      → heads_beat ranks f ss g (list_of ts) ≡ true
      → ((u : Tree) → In (list_of ts) u → greater ranks (app f ss) u ≡ true)
      → greater ranks (app f ss) (app g ts) ≡ true
  above_by_heads f ss g ts b h =
      greater_than_application ranks f g ss ts
      ∙ or_right (list_any (λ s. same_tree s (app g ts) || greater ranks s (app g ts)) (list_of ss))
      (heads_beat ranks f ss g (list_of ts) && list_all (greater ranks (app f ss)) (list_of ts))
      (and_from (heads_beat ranks f ss g (list_of ts)) (list_all (greater ranks (app f ss)) (list_of ts)) b
      (all_from (greater ranks (app f ss)) (list_of ts) h))

  pub above_cases : (f : PlainOperator) (ss : Forest) (t : Tree) → greater ranks (app f ss) t ≡ true
      → Reaches ss t ⊎ HeadsAbove f ss t
  above_cases f ss (var n s) e = inl (reaches_found ss (var n s) e)
  above_cases f ss (app g ts) e =
      ⊎_elim (λ h. inl (reaches_found ss (app g ts) (reaches_is ranks ss (app g ts) ∙ h)))
      (λ h.
      let b = and_parts (heads_beat ranks f ss g (list_of ts)) (list_all (greater ranks (app f ss)) (list_of ts)) h in
      inr (g, ts, refl, b.0, all_at (greater ranks (app f ss)) (list_of ts) b.1))
      (or_cases (list_any (λ s. same_tree s (app g ts) || greater ranks s (app g ts)) (list_of ss))
      (heads_beat ranks f ss g (list_of ts) && list_all (greater ranks (app f ss)) (list_of ts))
      (sym (greater_than_application ranks f g ss ts) ∙ e))

  some_beats_is : (ss : Forest) (us ts : List Tree) (t : Tree)
      → some_beats ranks ss us ts t ≡ list_any (λ s. remains us ts s && greater ranks s t) (list_of ss)
  some_beats_is none us ts t = refl
  some_beats_is (more s ss) us ts t = ap (λ b. (remains us ts s && greater ranks s t) || b) (some_beats_is ss us ts t)

  pub remains_told : (us ts : List Tree) (x : Tree) → remains us ts x ≡ true → Remains us ts x
  remains_told us ts x e = omega (arith, ltb-true (count_of x ts) (count_of x us) e, count_is x ts, count_is x us)

  pub remains_from : (us ts : List Tree) (x : Tree) → Remains us ts x → remains us ts x ≡ true
  remains_from us ts x lt = lt-ltb (count_of x ts) (count_of x us) (omega (arith, lt, count_is x ts, count_is x us))

  not_and : (a b : Bool) → a ≡ true → (not a || b) ≡ true → b ≡ true
  not_and true b p e = e
  not_and false b p e = absurd (true≢false (sym p))

  not_or : (a b : Bool) → (a ≡ true → b ≡ true) → (not a || b) ≡ true
  not_or true b h = h refl
  not_or false b h = refl

  abbrev IsBeaten : Forest → List Tree → Tree → Bool
  IsBeaten ss us t = some_beats ranks ss (list_of ss) us t

  pub multiset_found : (ss : Forest) (us : List Tree) → multiset_greater (IsBeaten ss us) (list_of ss) us ≡ true
      → MultisetAbove (greater ranks) (list_of ss) us
  multiset_found ss us e =
      let ts : List Tree = list_of ss in
      let b =
      and_parts (list_any (remains ts us) ts) (list_all (λ t. not (remains us ts t) || IsBeaten ss us t) us) e in
      let a = any_found (remains ts us) ts b.0 in (
        (a.0, remains_told ts us a.0 a.2),
        λ t lt.
            let i : In us t = in_from_count t us (omega (arith, lt)) in
            let r =
            any_found (λ s. remains ts us s && greater ranks s t) ts
            (sym (some_beats_is ss ts us t) ∙ not_and (remains us ts t) (IsBeaten ss us t) (remains_from us ts t lt)
            (all_at (λ t. not (remains us ts t) || IsBeaten ss us t) us b.1 t i)) in
            let p = and_parts (remains ts us r.0) (greater ranks r.0 t) r.2 in
            (r.0, remains_told ts us r.0 p.0, p.1),
      )

  pub multiset_from : (ss : Forest) (us : List Tree) → MultisetAbove (greater ranks) (list_of ss) us
      → multiset_greater (IsBeaten ss us) (list_of ss) us ≡ true
  multiset_from ss us m =
      let ts : List Tree = list_of ss in
      and_from (list_any (remains ts us) ts) (list_all (λ t. not (remains us ts t) || IsBeaten ss us t) us)
      (any_from (remains ts us) ts m.0.0 (in_from_count m.0.0 ts (omega (arith, m.0.1)))
      (remains_from ts us m.0.0 m.0.1))
      (all_from (λ t. not (remains us ts t) || IsBeaten ss us t) us
      (λ t i. not_or (remains us ts t) (IsBeaten ss us t)
      (λ e. let r = m.1 t (remains_told us ts t e) in
      some_beats_is ss ts us t
      ∙ any_from (λ s. remains ts us s && greater ranks s t) ts r.0 (in_from_count r.0 ts (omega (arith, r.1)))
      (and_from (remains ts us r.0) (greater ranks r.0 t) (remains_from ts us r.0 r.1) r.2))))

  -- a list of arguments is above another one by a status
  abbrev pub ListsAbove : Way → Forest → List Tree → Type 0
  ListsAbove LeftToRight ss us = first_greater ranks ss us ≡ true
  ListsAbove RightToLeft ss us = last_greater ranks ss us ≡ true
  ListsAbove Multiset ss us = MultisetAbove (greater ranks) (list_of ss) us

  -- by the precedence, or by the lists of arguments of one operator
  abbrev pub HeadCases : PlainOperator → Forest → PlainOperator → List Tree → Type 0
  HeadCases f ss g us = ((f ≡ g → ⊥) × (above ranks f g ≡ true)) ⊎ ((f ≡ g) × ListsAbove (status_of ranks f) ss us)

  by_lists : (w : Way) (ss : Forest) (us : List Tree)
      → of_status w (first_greater ranks ss us) (last_greater ranks ss us)
      (multiset_greater (IsBeaten ss us) (list_of ss) us) ≡ true
      → ListsAbove w ss us
  by_lists LeftToRight ss us e = e
  by_lists RightToLeft ss us e = e
  by_lists Multiset ss us e = multiset_found ss us e

  from_lists : (w : Way) (ss : Forest) (us : List Tree) → ListsAbove w ss us
      → of_status w (first_greater ranks ss us) (last_greater ranks ss us)
      (multiset_greater (IsBeaten ss us) (list_of ss) us) ≡ true
  from_lists LeftToRight ss us e = e
  from_lists RightToLeft ss us e = e
  from_lists Multiset ss us e = multiset_from ss us e

  abbrev ByStatus : PlainOperator → Forest → List Tree → Bool
  ByStatus f ss us =
      of_status (status_of ranks f) (first_greater ranks ss us) (last_greater ranks ss us)
      (multiset_greater (IsBeaten ss us) (list_of ss) us)

  pub heads_cases : (f : PlainOperator) (ss : Forest) (g : PlainOperator) (us : List Tree)
      → heads_beat ranks f ss g us ≡ true → HeadCases f ss g us
  heads_cases f ss g us e =
      ⊎_elim
      (λ h. inr (
        (operator_Decides f g).0 h,
        by_lists (status_of ranks f) ss us
            (sym (cond-true (same_operator f g) (ByStatus f ss us) (above ranks f g) h) ∙ e),
      ))
      (λ h. inl (
        λ p. true≢false (sym ((operator_Decides f g).1 p) ∙ h),
        sym (cond-false (same_operator f g) (ByStatus f ss us) (above ranks f g) h) ∙ e,
      ))
      (cases_Bool (same_operator f g))

  pub heads_from : (f : PlainOperator) (ss : Forest) (g : PlainOperator) (us : List Tree) → HeadCases f ss g us
      → heads_beat ranks f ss g us ≡ true
  heads_from f ss g us (inl h) =
      cond-false (same_operator f g) (ByStatus f ss us) (above ranks f g)
      (false_from_ne_true (same_operator f g) (λ e. h.0 ((operator_Decides f g).0 e))) ∙ h.1
  heads_from f ss g us (inr h) =
      cond-true (same_operator f g) (ByStatus f ss us) (above ranks f g) ((operator_Decides f g).1 h.0)
      ∙ from_lists (status_of ranks f) ss us h.1
