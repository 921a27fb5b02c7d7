-- What decides how a term stands to another one.
use Rattle.std.proofs.Common.{◌≡◌, ℕ, ◌+◌, ◌-◌, ◌<◌, ◌≤◌, length, take, drop, get_or, Bool, true, false, cond, ◌&&◌}
use Rattle.std.proofs.Common.{◌||◌, List, sum_by, refl, sym, ◌∙◌, ap, ap₂, arith}
use Rattle.std.specs.List.{list_all}
use Rattle.std.proofs.lemmas.List.Sums.{get_or-le-sum_by, sum_by-take-drop}
use Rattle.std.proofs.lemmas.List.{take_rest}
use Rattle.std.proofs.lemmas.Bool.{false≢true}
use Rattle.larch_term.specs.Operator.{PlainOperator}
use Rattle.larch_term.specs.Tree.{Tree, Forest, var, app, forest_of, list_of, nodes}
use Rattle.larch_term.proofs.TreeLists.{list_of-forest_of, same_parts}
use Rattle.larch_order.specs.declared.precedence.Ranked.{Ranked}
use Rattle.larch_base.specs.declared.way.Way.{Way}
use Rattle.larch_base.specs.declared.way.Way.TheVariants.{LeftToRight, RightToLeft, Multiset}
use Rattle.larch_order.specs.declared.greater.Comparison.{Comparison}
use Rattle.larch_order.specs.declared.greater.Comparison.TheVariants.{Same, Above, Neither}
use Rattle.larch_order.specs.Precedence.{above, status_of}
use Rattle.larch_term.specs.Equality.{same_tree, same_operator}
use Rattle.larch_order.specs.Greater.{OneHead, greater, comparison, is_above, reaches, head_beats, heads_beat}
use Rattle.larch_order.specs.Greater.{multiset_greater, some_reaches, first_greater, last_greater, some_beats}
use Rattle.larch_term.proofs.Decided.{tree_Decides, operator_Decides}
use Rattle.larch_order.proofs.Ordering.{above_each, parts_fall}
use Rattle.larch_order.proofs.Irreflexive.{irreflexive}
use Rattle.larch_base.proofs.Bools.{same_truth, and_both, or_right}
use Rattle.larch_order.proofs.Below.{different, above_arguments}

-- what a comparison tells

same_tells : (x y : Bool) → Same ≡ cond x Same (cond y Above Neither) → x ≡ true
same_tells true y e = refl
same_tells false true e = cc
same_tells false false e = cc

above_tells : (x y : Bool) → Above ≡ cond x Same (cond y Above Neither) → (x ≡ false) × (y ≡ true)
above_tells true y e = cc
above_tells false true e = (refl, refl)
above_tells false false e = cc

neither_tells : (x y : Bool) → Neither ≡ cond x Same (cond y Above Neither) → (x ≡ false) × (y ≡ false)
neither_tells true y e = cc
neither_tells false true e = cc
neither_tells false false e = (refl, refl)

pub told_same : (ranks : List Ranked) (s t : Tree) → Same ≡ comparison ranks s t → s ≡ t
told_same ranks s t e = (tree_Decides s t).0 (same_tells (same_tree s t) (greater ranks s t) e)

pub told_above : (ranks : List Ranked) (s t : Tree) → Above ≡ comparison ranks s t
    → (same_tree s t ≡ false) × (greater ranks s t ≡ true)
told_above ranks s t e = above_tells (same_tree s t) (greater ranks s t) e

pub told_neither : (ranks : List Ranked) (s t : Tree) → Neither ≡ comparison ranks s t
    → (same_tree s t ≡ false) × (greater ranks s t ≡ false)
told_neither ranks s t e = neither_tells (same_tree s t) (greater ranks s t) e

-- how a comparison is found

pub stands : (ranks : List Ranked) (s t : Tree) (b : Bool) → same_tree s t ≡ false → greater ranks s t ≡ b
    → cond b Above Neither ≡ comparison ranks s t
stands ranks s t b d e = rw (d, e) refl

pub stands_same : (ranks : List Ranked) (s t : Tree) → s ≡ t → Same ≡ comparison ranks s t
stands_same ranks s t e = rw ((tree_Decides s t).1 e) refl

-- the heads

abbrev pub beat : List Ranked → PlainOperator → PlainOperator → List Tree → List Tree → Bool
beat ranks f g ss ts =
    head_beats ranks f g (first_greater ranks (forest_of ss) ts) (last_greater ranks (forest_of ss) ts)
    (multiset_greater (λ w. some_beats ranks (forest_of ss) ss ts w) ss ts)

beat_is : (ranks : List Ranked) (f g : PlainOperator) (ss ts : List Tree)
    → heads_beat ranks f (forest_of ss) g (list_of (forest_of ts)) ≡ beat ranks f g ss ts
beat_is ranks f g ss ts =
    ap (heads_beat ranks f (forest_of ss) g) (list_of-forest_of ts)
    ∙ ap (λ l. head_beats ranks f g (first_greater ranks (forest_of ss) ts) (last_greater ranks (forest_of ss) ts)
    (multiset_greater (λ w. some_beats ranks (forest_of ss) l ts w) l ts)) (list_of-forest_of ss)

pub greater_by : (ranks : List Ranked) (f g : PlainOperator) (ss ts : List Tree)
    → greater ranks (app f (forest_of ss)) (app g (forest_of ts))
    ≡ (some_reaches ranks (forest_of ss) (app g (forest_of ts))
    || (beat ranks f g ss ts && list_all (greater ranks (app f (forest_of ss))) ts))
greater_by ranks f g ss ts =
    ap₂ (λ b c. some_reaches ranks (forest_of ss) (app g (forest_of ts)) || (b && c)) (beat_is ranks f g ss ts)
    (above_each ranks f (forest_of ss) (forest_of ts)
    ∙ ap (list_all (greater ranks (app f (forest_of ss)))) (list_of-forest_of ts))

-- where the heads allow it, the arguments of the other term decide
pub allowed : (ranks : List Ranked) (f g : PlainOperator) (ss ts : List Tree) → beat ranks f g ss ts ≡ true
    → greater ranks (app f (forest_of ss)) (app g (forest_of ts)) ≡ list_all (greater ranks (app f (forest_of ss))) ts
allowed ranks f g ss ts e =
    same_truth (greater ranks (app f (forest_of ss)) (app g (forest_of ts)))
    (list_all (greater ranks (app f (forest_of ss))) ts)
    (above_arguments ranks (app f (forest_of ss)) g ts)
    (λ h. greater_by ranks f g ss ts
    ∙ or_right (some_reaches ranks (forest_of ss) (app g (forest_of ts)))
    (beat ranks f g ss ts && list_all (greater ranks (app f (forest_of ss))) ts)
    (and_both (beat ranks f g ss ts) (list_all (greater ranks (app f (forest_of ss))) ts) e h))

or_nothing : (a b c : Bool) → b ≡ false → (a || (b && c)) ≡ a
or_nothing true b c e = refl
or_nothing false true c e = cc
or_nothing false false c e = refl

-- where they don't, the term's own arguments do
pub forbidden : (ranks : List Ranked) (f g : PlainOperator) (ss ts : List Tree) → beat ranks f g ss ts ≡ false
    → greater ranks (app f (forest_of ss)) (app g (forest_of ts))
    ≡ some_reaches ranks (forest_of ss) (app g (forest_of ts))
forbidden ranks f g ss ts e =
    greater_by ranks f g ss ts ∙ or_nothing (some_reaches ranks (forest_of ss) (app g (forest_of ts)))
    (beat ranks f g ss ts) (list_all (greater ranks (app f (forest_of ss))) ts) e

pub beat_other : (ranks : List Ranked) (f g : PlainOperator) (ss ts : List Tree) → same_operator f g ≡ false
    → beat ranks f g ss ts ≡ above ranks f g
beat_other ranks f g ss ts e = rw e refl

pub beat_first : (ranks : List Ranked) (f : PlainOperator) (ss ts : List Tree) → status_of ranks f ≡ LeftToRight
    → beat ranks f f ss ts ≡ first_greater ranks (forest_of ss) ts
beat_first ranks f ss ts e = rw ((operator_Decides f f).1 refl, e) refl

pub beat_last : (ranks : List Ranked) (f : PlainOperator) (ss ts : List Tree) → status_of ranks f ≡ RightToLeft
    → beat ranks f f ss ts ≡ last_greater ranks (forest_of ss) ts
beat_last ranks f ss ts e = rw ((operator_Decides f f).1 refl, e) refl

pub beat_multiset : (ranks : List Ranked) (f : PlainOperator) (ss ts : List Tree) → status_of ranks f ≡ Multiset
    → beat ranks f f ss ts ≡ multiset_greater (λ w. some_beats ranks (forest_of ss) ss ts w) ss ts
beat_multiset ranks f ss ts e = rw ((operator_Decides f f).1 refl, e) refl

-- a variable is above nothing
pub variable_stands : (ranks : List Ranked) (n s : List ℕ) (u v : Tree) (c : Comparison) → var n s ≡ u
    → c ≡ cond (same_tree u v) Same Neither → c ≡ comparison ranks u v
variable_stands ranks n s u v c p e =
    let g : greater ranks u v ≡ false = rw (← p) refl in
    e ∙ ap (λ b. cond (same_tree u v) Same (cond b Above Neither)) (sym g)

never : (f : PlainOperator) (ss : Forest) (n s : List ℕ) → app f ss ≡ var n s → ⊥
never f ss n s e = cc

-- above a variable is what one of its arguments reaches
pub stands_to_variable : (ranks : List Ranked) (f : PlainOperator) (ss : List Tree) (n s : List ℕ) (u v : Tree)
    (r : Bool) → app f (forest_of ss) ≡ u → var n s ≡ v
    → r ≡ some_reaches ranks (forest_of ss) v → cond r Above Neither ≡ comparison ranks u v
stands_to_variable ranks f ss n s u v r p q e =
    let d : same_tree u v ≡ false = different u v (λ h. never f (forest_of ss) n s (p ∙ h ∙ sym q)) in
    let g : greater ranks u v ≡ r =
    ap₂ (greater ranks) (sym p) (sym q) ∙ ap (some_reaches ranks (forest_of ss)) q ∙ sym e in
    stands ranks u v r d g

-- terms with other heads

other_heads : (ranks : List Ranked) (f g : PlainOperator) (ss ts : List Tree) (u v : Tree) → app f (forest_of ss) ≡ u
    → app g (forest_of ts) ≡ v → same_operator f g ≡ false → same_tree u v ≡ false
other_heads ranks f g ss ts u v p q d =
    different u v (λ e. false≢true (sym d ∙ (operator_Decides f g).1 ((same_parts f g ss ts (p ∙ e ∙ sym q)).0)))

pub higher_stands : (ranks : List Ranked) (f g : PlainOperator) (ss ts : List Tree) (u v : Tree) (r : Bool)
    → app f (forest_of ss) ≡ u → app g (forest_of ts) ≡ v → same_operator f g ≡ false
    → above ranks f g ≡ true → r ≡ list_all (greater ranks u) ts → cond r Above Neither ≡ comparison ranks u v
higher_stands ranks f g ss ts u v r p q d a e =
    let x : greater ranks u v ≡ r =
    ap₂ (greater ranks) (sym p) (sym q) ∙ allowed ranks f g ss ts (beat_other ranks f g ss ts d ∙ a)
    ∙ ap (λ w. list_all (greater ranks w) ts) p ∙ sym e in
    stands ranks u v r (other_heads ranks f g ss ts u v p q d) x

pub other_stands : (ranks : List Ranked) (f g : PlainOperator) (ss ts : List Tree) (u v : Tree) (r : Bool)
    → app f (forest_of ss) ≡ u → app g (forest_of ts) ≡ v → same_operator f g ≡ false
    → above ranks f g ≡ false → r ≡ some_reaches ranks (forest_of ss) v → cond r Above Neither ≡ comparison ranks u v
other_stands ranks f g ss ts u v r p q d a e =
    let x : greater ranks u v ≡ r =
    ap₂ (greater ranks) (sym p) (sym q) ∙ forbidden ranks f g ss ts (beat_other ranks f g ss ts d ∙ a)
    ∙ ap (some_reaches ranks (forest_of ss)) q ∙ sym e in
    stands ranks u v r (other_heads ranks f g ss ts u v p q d) x

above_exactly : (x y : Bool) → (x ≡ true → y ≡ false) → is_above (cond x Same (cond y Above Neither)) ≡ y
above_exactly true y h = sym (h refl)
above_exactly false true h = refl
above_exactly false false h = refl

reaches_exactly : (x y : Bool) → reaches (cond x Same (cond y Above Neither)) ≡ (x || y)
reaches_exactly true y = refl
reaches_exactly false true = refl
reaches_exactly false false = refl

-- a term is greater exactly where it stands above
pub above_is_greater : (ranks : List Ranked) (s t : Tree) → is_above (comparison ranks s t) ≡ greater ranks s t
above_is_greater ranks s t =
    above_exactly (same_tree s t) (greater ranks s t)
    (λ e. ap (greater ranks s) (sym ((tree_Decides s t).0 e)) ∙ irreflexive ranks s)

pub not_greater_told : (ranks : List Ranked) (s t : Tree) (c : Comparison) (b : Bool) → c ≡ comparison ranks s t
    → b ≡ is_above c → b ≡ false → greater ranks s t ≡ false
not_greater_told ranks s t c b e x y = sym (above_is_greater ranks s t) ∙ ap is_above (sym e) ∙ sym x ∙ y

pub reaches_is : (ranks : List Ranked) (s t : Tree)
    → reaches (comparison ranks s t) ≡ (same_tree s t || greater ranks s t)
reaches_is ranks s t = reaches_exactly (same_tree s t) (greater ranks s t)

-- two terms with one head
pub one_head : (ranks : List Ranked) (f g : PlainOperator) (ss ts : List Tree) (u v : Tree) (b : Bool) (w way : Way)
    → app f (forest_of ss) ≡ u → app g (forest_of ts) ≡ v
    → b ≡ same_operator f g → b ≡ true → w ≡ status_of ranks f → w ≡ way → OneHead ranks u ss v ts way
one_head ranks f g ss ts u v b w way p q s e x y =
    (f, (sym p, (sym q ∙ ap (λ h. app h (forest_of ts)) (sym ((operator_Decides f g).0 (sym s ∙ e))), sym x ∙ y)))

-- how their arguments are smaller
pub left_falls : (ranks : List Ranked) (u v : Tree) (ss ts : List Tree) (way : Way) → OneHead ranks u ss v ts way
    → nodes u ≡ 1 + sum_by nodes ss
left_falls ranks u v ss ts way h = parts_fall h.0 ss u (sym h.1.0)

pub right_falls : (ranks : List Ranked) (u v : Tree) (ss ts : List Tree) (way : Way) → OneHead ranks u ss v ts way
    → nodes v ≡ 1 + sum_by nodes ts
right_falls ranks u v ss ts way h = parts_fall h.0 ts v (sym h.1.1.0)

-- how parts of a list are smaller
pub item_falls : (ts : List Tree) (i : ℕ) (t : Tree) → t ≡ get_or ts i t → i < length ts → nodes t ≤ sum_by nodes ts
item_falls ts i t at lt = omega (arith, get_or-le-sum_by nodes ts i t lt, ap nodes at)

pub rest_falls : (ts : List Tree) (i : ℕ) → sum_by nodes (take (length ts - i) (drop i ts)) ≤ sum_by nodes ts
rest_falls ts i = omega (arith, ap (sum_by nodes) (take_rest ts i), sum_by-take-drop nodes ts i)
