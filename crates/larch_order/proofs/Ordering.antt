-- The ordering by cases.
use Rattle.std.proofs.Common.{◌≡◌, ◌≢◌, ℕ, suc, ◌+◌, true, false, cond, not, ◌&&◌, List, [], ◌∷◌, length, refl, sym}
use Rattle.std.proofs.Common.{◌∙◌, ap, sum_by, arith}
use Rattle.std.specs.List.{list_all}
use Rattle.std.specs.Cmp.Lexicographic.{pointwise}
use Rattle.larch_term.specs.Operator.{PlainOperator}
use Rattle.larch_term.specs.Tree.{Tree, Forest, var, app, none, more, forest_of, list_of, nodes, nodes_all_is_sum}
use Rattle.larch_term.proofs.TreeLists.{list_of-forest_of}
use Rattle.larch_term.specs.Equality.{same_tree}
use Rattle.larch_base.proofs.Bools.{and_not_right, or_left}
use Rattle.larch_order.specs.declared.precedence.Ranked.{Ranked}
use Rattle.larch_order.specs.Greater.{greater, all_by_rule, some_reaches, last_greater, heads_beat}

pub above_each : (ranks : List Ranked) (f : PlainOperator) (ss ts : Forest)
    → all_by_rule (λ u. some_reaches ranks ss u) (λ g us. heads_beat ranks f ss g us) ts
    ≡ list_all (greater ranks (app f ss)) (list_of ts)
above_each ranks f ss none = refl
above_each ranks f ss (more t ts) = ap (λ b. greater ranks (app f ss) t && b) (above_each ranks f ss ts)

pub reached_by : (ranks : List Ranked) (f : PlainOperator) (ss : Forest) (v : Tree) → some_reaches ranks ss v ≡ true
    → greater ranks (app f ss) v ≡ true
reached_by ranks f ss (var n s) e = e
reached_by ranks f ss (app g ts) e =
    or_left (some_reaches ranks ss (app g ts))
    (heads_beat ranks f ss g (list_of ts)
    && all_by_rule (λ u. some_reaches ranks ss u) (λ h us. heads_beat ranks f ss h us) ts) e

pub suc_inj : {n m : ℕ} → suc n ≡ suc m → n ≡ m
suc_inj e = omega (arith, e)

-- how the parts of an application are smaller
pub parts_fall : (f : PlainOperator) (ss : List Tree) (u : Tree) → app f (forest_of ss) ≡ u
    → nodes u ≡ 1 + sum_by nodes ss
parts_fall f ss u p = rw (← p) (ap (λ n. 1 + n) (nodes_all_is_sum ss))

unequal_lengths : (ss ts : List Tree) → length ss ≢ length ts → pointwise same_tree ss ts ≡ false
unequal_lengths [] [] h = absurd (h refl)
unequal_lengths [] (t ∷ ts) h = refl
unequal_lengths (s ∷ ss) [] h = refl
unequal_lengths (s ∷ ss) (t ∷ ts) h =
    and_not_right (same_tree s t) (pointwise same_tree ss ts) (unequal_lengths ss ts (λ e. h (ap suc e)))

pub last_greater_cons : (ranks : List Ranked) (s t : Tree) (ss ts : List Tree)
    → last_greater ranks (forest_of (s ∷ ss)) (t ∷ ts)
    ≡ cond (pointwise same_tree ss ts) (not (same_tree s t) && greater ranks s t) (last_greater ranks (forest_of ss) ts)
last_greater_cons ranks s t ss ts =
    ap (λ l. cond (pointwise same_tree l ts) (not (same_tree s t) && greater ranks s t)
    (last_greater ranks (forest_of ss) ts)) (list_of-forest_of ss)

-- lists of different lengths don't differ at a last place
pub last_greater_unequal : (ranks : List Ranked) (ss ts : List Tree) → length ss ≢ length ts
    → false ≡ last_greater ranks (forest_of ss) ts
last_greater_unequal ranks [] ts h = refl
last_greater_unequal ranks (s ∷ ss) [] h = refl
last_greater_unequal ranks (s ∷ ss) (t ∷ ts) h =
    let g : length ss ≢ length ts = λ e. h (ap suc e) in
    last_greater_unequal ranks ss ts g
    ∙ sym (last_greater_cons ranks s t ss ts
    ∙ ap (λ b. cond b (not (same_tree s t) && greater ranks s t) (last_greater ranks (forest_of ss) ts))
    (unequal_lengths ss ts g))
