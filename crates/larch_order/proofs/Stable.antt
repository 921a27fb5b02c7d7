-- Substitutions keep the ordering.
use Rattle.std.proofs.Common.{◌≡◌, ℕ, zero, suc, ◌+◌, ◌<◌, true, List, ◌∷◌, map, refl, sym, ap, subst, inl, inr, ⊎_elim}
use Rattle.std.proofs.Common.{arith}
use Rattle.std.proofs.lemmas.Bool.{true≢false}
use Rattle.larch_term.specs.Operator.{PlainOperator}
use Rattle.larch_term.specs.Tree.{Tree, Forest, var, app, none, more, list_of, nodes}
use Rattle.larch_term.specs.Substitution.{instance_of, substituted_all}
use Rattle.larch_term.specs.declared.substitution.Entry.{Entry}
use Rattle.larch_order.specs.declared.precedence.Ranked.{Ranked}
use Rattle.larch_base.specs.declared.way.Way.{Way}
use Rattle.larch_base.specs.declared.way.Way.TheVariants.{LeftToRight, RightToLeft, Multiset}
use Rattle.larch_order.specs.Precedence.{status_of}
use Rattle.larch_order.specs.Greater.{greater, first_greater, last_greater, heads_beat}
use Rattle.larch_order.proofs.Multisets.{In, MultisetAbove, in_mapped, multiset_mapped}
use Rattle.larch_order.proofs.Above.{HeadCases, ListsAbove, above_by_argument, above_by_heads, above_cases, heads_cases}
use Rattle.larch_order.proofs.Above.{heads_from, argument_nodes}
use Rattle.larch_order.proofs.Transitive.{same_forests, first_cases, first_same, first_other, last_cases, last_here}
use Rattle.larch_order.proofs.Transitive.{last_before, last_irreflexive}
use Rattle.larch_order.proofs.Irreflexive.{apart, irreflexive, transitive}

substituted_list : (es : List Entry) (ts : Forest) → list_of (substituted_all es ts) ≡ map (instance_of es) (list_of ts)
substituted_list es none = refl
substituted_list es (more t ts) = ap (λ us. instance_of es t ∷ us) (substituted_list es ts)

in_substituted : (es : List Entry) (ts : Forest) (t : Tree) → In (list_of ts) t
    → In (list_of (substituted_all es ts)) (instance_of es t)
in_substituted es ts t i =
    subst (λ l. In l (instance_of es t)) (sym (substituted_list es ts)) (in_mapped (instance_of es) t (list_of ts) i)

from_substituted : (es : List Entry) (ts : Forest) (u : Tree) → In (list_of (substituted_all es ts)) u
    → (t : Tree) × In (list_of ts) t × (instance_of es t ≡ u)
from_substituted es none u i = absurd i
from_substituted es (more t ts) u (inl e) = (t, inl refl, e)
from_substituted es (more t ts) u (inr i) = let r = from_substituted es ts u i in (r.0, inr r.1, r.2)

module _ (ranks : List Ranked) (es : List Entry) where
  -- the substitution keeps the ordering between the terms of two lists
  abbrev Kept : Forest → Forest → Type 0
  Kept ss ts =
      (s t : Tree) → In (list_of ss) s → In (list_of ts) t → greater ranks s t ≡ true
      → greater ranks (instance_of es s) (instance_of es t) ≡ true

  first_kept : (ss ts : Forest) → Kept ss ts → first_greater ranks ss (list_of ts) ≡ true
      → first_greater ranks (substituted_all es ss) (list_of (substituted_all es ts)) ≡ true
  first_kept none ts k a = absurd (true≢false (sym a))
  first_kept (more s ss) none k a = absurd (true≢false (sym a))
  first_kept (more s ss) (more t ts) k a =
      let us : Forest = substituted_all es ss in
      let vs : List Tree = list_of (substituted_all es ts) in
      ⊎_elim (λ p. first_same ranks (instance_of es s) (instance_of es t) us vs (ap (instance_of es) p.0)
      (first_kept ss ts (λ x y i j. k x y (inr i) (inr j)) p.1))
      (λ p.
      let g : greater ranks (instance_of es s) (instance_of es t) ≡ true = k s t (inl refl) (inl refl) p.1 in
      first_other ranks (instance_of es s) (instance_of es t) us vs
      (apart ranks (instance_of es s) (instance_of es t) g) g)
      (first_cases ranks s t ss (list_of ts) a)

  last_kept : (ss ts : Forest) → Kept ss ts → last_greater ranks ss (list_of ts) ≡ true
      → last_greater ranks (substituted_all es ss) (list_of (substituted_all es ts)) ≡ true
  last_kept none ts k a = absurd (true≢false (sym a))
  last_kept (more s ss) none k a = absurd (true≢false (sym a))
  last_kept (more s ss) (more t ts) k a =
      let us : Forest = substituted_all es ss in
      let vs : List Tree = list_of (substituted_all es ts) in
      ⊎_elim
      (λ p.
      let g : greater ranks (instance_of es s) (instance_of es t) ≡ true = k s t (inl refl) (inl refl) p.2 in
      last_here ranks (instance_of es s) (instance_of es t) us vs
      (ap (λ l. list_of (substituted_all es l)) (same_forests ss ts p.0))
      (apart ranks (instance_of es s) (instance_of es t) g) g)
      (λ p.
      let r : last_greater ranks us vs ≡ true = last_kept ss ts (λ x y i j. k x y (inr i) (inr j)) p.1 in
      last_before ranks (instance_of es s) (instance_of es t) us vs
      (λ e. last_irreflexive ranks us (subst (λ l. last_greater ranks us l ≡ true) (sym e) r)) r)
      (last_cases ranks s t ss (list_of ts) a)

  lists_kept : (w : Way) (ss ts : Forest) → Kept ss ts → ListsAbove ranks w ss (list_of ts)
      → ListsAbove ranks w (substituted_all es ss) (list_of (substituted_all es ts))
  lists_kept LeftToRight ss ts k a = first_kept ss ts k a
  lists_kept RightToLeft ss ts k a = last_kept ss ts k a
  lists_kept Multiset ss ts k a =
      subst (λ l. MultisetAbove (greater ranks) l (list_of (substituted_all es ts))) (sym (substituted_list es ss))
      (subst (λ l. MultisetAbove (greater ranks) (map (instance_of es) (list_of ss)) l) (sym (substituted_list es ts))
      (multiset_mapped (greater ranks) (instance_of es) (list_of ss) (list_of ts) (irreflexive ranks) (transitive ranks)
      (λ x y i j. k x y i j) a))

  heads_kept : (f g : PlainOperator) (ss ts : Forest) → Kept ss ts → HeadCases ranks f ss g (list_of ts)
      → HeadCases ranks f (substituted_all es ss) g (list_of (substituted_all es ts))
  heads_kept f g ss ts k (inl h) = inl h
  heads_kept f g ss ts k (inr h) = inr (h.0, lists_kept (status_of ranks f) ss ts k h.1)

  abbrev KeptBelow : ℕ → Type 0
  KeptBelow n =
      (t u : Tree) → nodes t + nodes u < n → greater ranks t u ≡ true
      → greater ranks (instance_of es t) (instance_of es u) ≡ true

  from_heads : (n : ℕ) → KeptBelow n → (f g : PlainOperator) (ss ts : Forest)
      → nodes (app f ss) + nodes (app g ts) < suc n → heads_beat ranks f ss g (list_of ts) ≡ true
      → ((u : Tree) → In (list_of ts) u → greater ranks (app f ss) u ≡ true)
      → greater ranks (instance_of es (app f ss)) (instance_of es (app g ts)) ≡ true
  from_heads n rec f g ss ts lt b all =
      let us : Forest = substituted_all es ss in
      let vs : Forest = substituted_all es ts in
      above_by_heads ranks f us g vs
      (heads_from ranks f us g (list_of vs)
      (heads_kept f g ss ts (λ x y i j. rec x y (omega (arith, lt, argument_nodes ss x i, argument_nodes ts y j)))
      (heads_cases ranks f ss g (list_of ts) b)))
      (λ v i.
      let r = from_substituted es ts v i in
      subst (λ y. greater ranks (app f us) y ≡ true) r.2
      (rec (app f ss) r.0 (omega (arith, lt, argument_nodes ts r.0 r.1)) (all r.0 r.1)))

  -- by induction on how many nodes the two terms have together
  kept_below : (n : ℕ) → KeptBelow n
  kept_below zero t u lt h = absurd (omega (arith, lt))
  kept_below (suc n) (var m s) u lt h = absurd (true≢false (sym h))
  kept_below (suc n) (app f ss) u lt h =
      ⊎_elim
      (λ r. above_by_argument ranks f (substituted_all es ss) (instance_of es u) (
        instance_of es r.0,
        in_substituted es ss r.0 r.1,
        ⊎_elim (λ e. inl (ap (instance_of es) e))
            (λ d. inr (kept_below n r.0 u (omega (arith, lt, argument_nodes ss r.0 r.1)) d)) r.2,
      ))
      (λ r. subst (λ y. greater ranks (instance_of es (app f ss)) (instance_of es y) ≡ true) (sym r.2)
      (from_heads n (kept_below n) f r.0 ss r.1 (omega (arith, lt, ap nodes r.2)) r.3 r.4))
      (above_cases ranks f ss u h)

  pub stable : (t u : Tree) → greater ranks t u ≡ true → greater ranks (instance_of es t) (instance_of es u) ≡ true
  stable t u h = kept_below (suc (nodes t + nodes u)) t u (omega arith) h
