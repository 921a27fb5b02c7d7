-- What is below a term, by the laws of the ordering.
use Rattle.std.proofs.Common.{◌≡◌, Bool, true, false, ◌||◌, List, [], ◌∷◌, refl, sym, ◌∙◌, ap}
use Rattle.std.proofs.lemmas.Bool.{false_from_ne_true, false≢true}
use Rattle.std.specs.List.{list_all}
use Rattle.larch_term.specs.Operator.{PlainOperator}
use Rattle.larch_term.specs.Tree.{Tree, app, forest_of}
use Rattle.larch_order.specs.declared.precedence.Ranked.{Ranked}
use Rattle.larch_term.specs.Equality.{same_tree}
use Rattle.larch_order.specs.Greater.{greater, some_reaches}
use Rattle.larch_base.proofs.Bools.{and_left, and_right, and_both, or_right, or_both}
use Rattle.larch_term.proofs.Decided.{tree_Decides}
use Rattle.larch_order.proofs.Ordering.{reached_by}
use Rattle.larch_order.proofs.Irreflexive.{transitive, irreflexive}

pub different : (t u : Tree) → (t ≡ u → ⊥) → same_tree t u ≡ false
different t u h = false_from_ne_true (same_tree t u) (λ e. h ((tree_Decides t u).0 e))

pub same_refl : (t : Tree) → same_tree t t ≡ true
same_refl t = (tree_Decides t t).1 refl

-- what a term is greater than isn't that term, and isn't greater
pub below_is_other : (ranks : List Ranked) (t u : Tree) → greater ranks t u ≡ true → same_tree u t ≡ false
below_is_other ranks t u h =
    different u t (λ e. false≢true (sym (irreflexive ranks u) ∙ ap (λ v. greater ranks v u) e ∙ h))

pub below_not_above : (ranks : List Ranked) (t u : Tree) → greater ranks t u ≡ true → greater ranks u t ≡ false
below_not_above ranks t u h =
    false_from_ne_true (greater ranks u t) (λ e. false≢true (sym (irreflexive ranks t) ∙ transitive ranks t u t h e))

-- a greater term is greater than all that is below
pub all_below : (ranks : List Ranked) (s t : Tree) (us : List Tree) → greater ranks s t ≡ true
    → list_all (greater ranks t) us ≡ true → list_all (greater ranks s) us ≡ true
all_below ranks s t [] e h = refl
all_below ranks s t (u ∷ us) e h =
    and_both (greater ranks s u) (list_all (greater ranks s) us)
    (transitive ranks s t u e (and_left (greater ranks t u) (list_all (greater ranks t) us) h))
    (all_below ranks s t us e (and_right (greater ranks t u) (list_all (greater ranks t) us) h))

each_reached : (ranks : List Ranked) (f : PlainOperator) (ss us : List Tree)
    → ((u : Tree) → some_reaches ranks (forest_of us) u ≡ true → some_reaches ranks (forest_of ss) u ≡ true)
    → list_all (greater ranks (app f (forest_of ss))) us ≡ true
each_reached ranks f ss [] h = refl
each_reached ranks f ss (u ∷ us) h =
    and_both (greater ranks (app f (forest_of ss)) u) (list_all (greater ranks (app f (forest_of ss))) us)
    (reached_by ranks f (forest_of ss) u (h u (rw (same_refl u) refl)))
    (each_reached ranks f ss us (λ v e.
    h v (or_right (same_tree u v || greater ranks u v) (some_reaches ranks (forest_of us) v) e)))

-- an application is greater than each of its arguments
pub arguments_below : (ranks : List Ranked) (f : PlainOperator) (ss : List Tree)
    → list_all (greater ranks (app f (forest_of ss))) ss ≡ true
arguments_below ranks f ss = each_reached ranks f ss ss (λ u e. e)

-- what is greater than an application is greater than each of its arguments
pub above_arguments : (ranks : List Ranked) (s : Tree) (g : PlainOperator) (ts : List Tree)
    → greater ranks s (app g (forest_of ts)) ≡ true → list_all (greater ranks s) ts ≡ true
above_arguments ranks s g ts e = all_below ranks s (app g (forest_of ts)) ts e (arguments_below ranks g ts)

-- what is below a term doesn't reach it
pub none_reaches : (ranks : List Ranked) (t : Tree) (us : List Tree) → list_all (greater ranks t) us ≡ true
    → some_reaches ranks (forest_of us) t ≡ false
none_reaches ranks t [] h = refl
none_reaches ranks t (u ∷ us) h =
    let e : greater ranks t u ≡ true = and_left (greater ranks t u) (list_all (greater ranks t) us) h in
    or_both (same_tree u t || greater ranks u t) (some_reaches ranks (forest_of us) t)
    (or_both (same_tree u t) (greater ranks u t) (below_is_other ranks t u e) (below_not_above ranks t u e))
    (none_reaches ranks t us (and_right (greater ranks t u) (list_all (greater ranks t) us) h))

reacher_by : (ranks : List Ranked) (s t : Tree) (us : List Tree) (b : Bool) → same_tree s t ≡ b
    → (b || greater ranks s t) ≡ true → list_all (greater ranks t) us ≡ true → list_all (greater ranks s) us ≡ true
reacher_by ranks s t us true e h below = ap (λ v. list_all (greater ranks v) us) ((tree_Decides s t).0 e) ∙ below
reacher_by ranks s t us false e h below = all_below ranks s t us h below

-- what reaches a term is greater than all that is below it
pub reacher_above : (ranks : List Ranked) (s t : Tree) (us : List Tree) → (same_tree s t || greater ranks s t) ≡ true
    → list_all (greater ranks t) us ≡ true → list_all (greater ranks s) us ≡ true
reacher_above ranks s t us h below = reacher_by ranks s t us (same_tree s t) refl h below
