-- No term is above itself, and so the ordering is transitive.
use Rattle.std.proofs.Common.{◌≡◌, ℕ, zero, suc, ◌+◌, ◌<◌, true, false, List, refl, sym, ap, subst, inl, ⊎_elim, arith}
use Rattle.std.proofs.lemmas.Bool.{false_from_ne_true, true≢false}
use Rattle.larch_term.specs.Operator.{PlainOperator}
use Rattle.larch_term.specs.Tree.{Tree, Forest, var, app, list_of, nodes}
use Rattle.larch_order.specs.declared.precedence.Ranked.{Ranked}
use Rattle.larch_order.specs.Precedence.{status_of}
use Rattle.larch_order.specs.Greater.{greater, heads_beat}
use Rattle.larch_order.proofs.Above.{ListsAbove, above_by_argument, above_cases, heads_cases, argument_nodes}
use Rattle.larch_order.proofs.Transitive.{lists_irreflexive, transitive_below}

module _ (ranks : List Ranked) where
  -- the head of an application doesn't beat itself
  own_head : (f g : PlainOperator) (ss ts : Forest) → app f ss ≡ app g ts
      → heads_beat ranks f ss g (list_of ts) ≡ true → ⊥
  own_head f g ss ts e h =
      let p : f ≡ g = cc in
      let q : ss ≡ ts = cc in
      ⊎_elim (λ c. c.0 p) (λ c. lists_irreflexive ranks (status_of ranks f) ss
      (subst (λ l. ListsAbove ranks (status_of ranks f) ss (list_of l)) (sym q) c.1))
      (heads_cases ranks f ss g (list_of ts) h)

  -- by induction on a bound on the nodes: below it the ordering is transitive too
  irreflexive_below : (n : ℕ) (t : Tree) → nodes t < n → greater ranks t t ≡ true → ⊥
  irreflexive_below zero t lt e = omega (arith, lt)
  irreflexive_below (suc n) (var m s) lt e = true≢false (sym e)
  irreflexive_below (suc n) (app f ss) lt e =
      ⊎_elim
      (λ r. ⊎_elim (λ q. omega (arith, argument_nodes ss r.0 r.1, ap nodes q))
      (λ d. irreflexive_below n r.0 (omega (arith, lt, argument_nodes ss r.0 r.1))
      (transitive_below ranks n (irreflexive_below n) (suc (nodes r.0 + nodes (app f ss) + nodes r.0)) r.0
      (app f ss) r.0
      (omega (arith, lt, argument_nodes ss r.0 r.1)) (omega arith) d
      (above_by_argument ranks f ss r.0 (r.0, r.1, inl refl)))) r.2)
      (λ r. own_head f r.0 ss r.1 r.2 r.3)
      (above_cases ranks f ss (app f ss) e)

  pub not_above_itself : (t : Tree) → greater ranks t t ≡ true → ⊥
  not_above_itself t e = irreflexive_below (suc (nodes t)) t (omega arith) e

  -- terms of which one is above the other differ
  pub apart : (x y : Tree) → greater ranks x y ≡ true → x ≡ y → ⊥
  apart x y h e = not_above_itself y (subst (λ z. greater ranks z y ≡ true) e h)

  pub irreflexive : (t : Tree) → greater ranks t t ≡ false
  irreflexive t = false_from_ne_true (greater ranks t t) (not_above_itself t)

  pub transitive : (a b c : Tree) → greater ranks a b ≡ true → greater ranks b c ≡ true → greater ranks a c ≡ true
  transitive a b c p q =
      transitive_below ranks (nodes a) (λ t lt. not_above_itself t) (suc (nodes a + nodes b + nodes c)) a b c
      (omega arith) (omega arith) p q
