-- A term with a greater one at a place is greater.
use Rattle.std.proofs.Common.{◌≡◌, ℕ, zero, suc, ◌+◌, true, List, [], ◌∷◌, Some, refl, sym, subst, inl, inr, arith}
use Rattle.std.proofs.lemmas.Option.{option_and_then_some}
use Rattle.larch_term.specs.Tree.{Tree, Forest, var, app, none, more, list_of}
use Rattle.larch_term.specs.Place.{at, argument, put, put_in}
use Rattle.larch_order.specs.declared.precedence.Ranked.{Ranked}
use Rattle.larch_base.specs.declared.way.Way.{Way}
use Rattle.larch_base.specs.declared.way.Way.TheVariants.{LeftToRight, RightToLeft, Multiset}
use Rattle.larch_order.specs.Precedence.{status_of}
use Rattle.larch_order.specs.Greater.{greater, first_greater, last_greater}
use Rattle.larch_order.proofs.Multisets.{In, count, tally, multiset_replaced}
use Rattle.larch_order.proofs.Above.{Reaches, ListsAbove, above_by_argument, above_by_heads, heads_from}
use Rattle.larch_order.proofs.Transitive.{first_same, first_other, last_here, last_before, last_irreflexive}
use Rattle.larch_order.proofs.Irreflexive.{apart}

-- how often a term occurs among the arguments
put_counts : (x : Tree) (ts : Forest) (k : ℕ) (p : List ℕ) (v w : Tree) → argument ts k ≡ Some w
    → count x (list_of (put_in ts k p v)) + tally x w ≡ count x (list_of ts) + tally x (put w p v)
put_counts x none k p v w a = cc
put_counts x (more t ts) zero p v w a = cc
put_counts x (more t ts) (suc zero) p v w a =
    let i : t ≡ w = cc in
    subst (λ y. tally x (put t p v) + count x (list_of ts) + tally x y
    ≡ tally x t + count x (list_of ts) + tally x (put y p v)) i (omega arith)
put_counts x (more t ts) (suc (suc k)) p v w a = omega (arith, put_counts x ts (suc k) p v w a)

module _ (ranks : List Ranked) where
  -- the lists of arguments are one above the other by each status
  put_first : (ts : Forest) (k : ℕ) (p : List ℕ) (v w : Tree) → argument ts k ≡ Some w
      → greater ranks (put w p v) w ≡ true → first_greater ranks (put_in ts k p v) (list_of ts) ≡ true
  put_first none k p v w a h = cc
  put_first (more t ts) zero p v w a h = cc
  put_first (more t ts) (suc zero) p v w a h =
      let i : w ≡ t = cc in
      let g : greater ranks (put t p v) t ≡ true = subst (λ y. greater ranks (put y p v) y ≡ true) i h in
      first_other ranks (put t p v) t ts (list_of ts) (apart ranks (put t p v) t g) g
  put_first (more t ts) (suc (suc k)) p v w a h =
      first_same ranks t t (put_in ts (suc k) p v) (list_of ts) refl (put_first ts (suc k) p v w a h)

  put_last : (ts : Forest) (k : ℕ) (p : List ℕ) (v w : Tree) → argument ts k ≡ Some w
      → greater ranks (put w p v) w ≡ true → last_greater ranks (put_in ts k p v) (list_of ts) ≡ true
  put_last none k p v w a h = cc
  put_last (more t ts) zero p v w a h = cc
  put_last (more t ts) (suc zero) p v w a h =
      let i : w ≡ t = cc in
      let g : greater ranks (put t p v) t ≡ true = subst (λ y. greater ranks (put y p v) y ≡ true) i h in
      last_here ranks (put t p v) t ts (list_of ts) refl (apart ranks (put t p v) t g) g
  put_last (more t ts) (suc (suc k)) p v w a h =
      let r : last_greater ranks (put_in ts (suc k) p v) (list_of ts) ≡ true = put_last ts (suc k) p v w a h in
      last_before ranks t t (put_in ts (suc k) p v) (list_of ts)
      (λ e. last_irreflexive ranks (put_in ts (suc k) p v)
      (subst (λ l. last_greater ranks (put_in ts (suc k) p v) l ≡ true) (sym e) r)) r

  put_lists : (way : Way) (ts : Forest) (k : ℕ) (p : List ℕ) (v w : Tree) → argument ts k ≡ Some w
      → greater ranks (put w p v) w ≡ true → ListsAbove ranks way (put_in ts k p v) (list_of ts)
  put_lists LeftToRight ts k p v w a h = put_first ts k p v w a h
  put_lists RightToLeft ts k p v w a h = put_last ts k p v w a h
  put_lists Multiset ts k p v w a h =
      multiset_replaced (greater ranks) (list_of (put_in ts k p v)) (list_of ts) (put w p v) w
      (apart ranks (put w p v) w h) h (λ x. put_counts x ts k p v w a)

  -- each argument is still one, or below one
  put_reaches : (ts : Forest) (k : ℕ) (p : List ℕ) (v w : Tree) → argument ts k ≡ Some w
      → greater ranks (put w p v) w ≡ true
      → (u : Tree) → In (list_of ts) u → Reaches ranks (put_in ts k p v) u
  put_reaches none k p v w a h u i = absurd i
  put_reaches (more t ts) zero p v w a h u i = cc
  put_reaches (more t ts) (suc zero) p v w a h u (inl e) =
      let i : w ≡ t = cc in (
        put t p v,
        inl refl,
        inr (subst (λ y. greater ranks (put t p v) y ≡ true) e (subst (λ y. greater ranks (put y p v) y ≡ true) i h)),
      )
  put_reaches (more t ts) (suc zero) p v w a h u (inr i) = (u, inr i, inl refl)
  put_reaches (more t ts) (suc (suc k)) p v w a h u (inl e) = (t, inl refl, inl e)
  put_reaches (more t ts) (suc (suc k)) p v w a h u (inr i) = let r = put_reaches ts (suc k) p v w a h u i in
      (r.0, inr r.1, r.2)

  -- by induction on the place
  pub put_above : (t : Tree) (p : List ℕ) (u v : Tree) → at t p ≡ Some u → greater ranks v u ≡ true
      → greater ranks (put t p v) t ≡ true
  put_above t [] u v h g = let i : t ≡ u = cc in subst (λ y. greater ranks v y ≡ true) (sym i) g
  put_above (var n s) (k ∷ p) u v h g = cc
  put_above (app f ts) (k ∷ p) u v h g =
      option_and_then_some (λ w. at w p) (argument ts k) u h
      (λ w a b.
      let d : greater ranks (put w p v) w ≡ true = put_above w p u v b g in
      above_by_heads ranks f (put_in ts k p v) f ts
      (heads_from ranks f (put_in ts k p v) f (list_of ts)
      (inr (refl, put_lists (status_of ranks f) ts k p v w a d)))
      (λ x i. above_by_argument ranks f (put_in ts k p v) x (put_reaches ts k p v w a d x i)))
