-- Applications of one operator that compares its arguments from the right.
use Rattle.std.proofs.Common.{◌≡◌, ◌≢◌, ℕ, suc, ◌+◌, ◌≤◌, length, take, drop, get_or, Bool, true, false, cond, ◌||◌}
use Rattle.std.proofs.Common.{List, [], ◌∷◌, ◌++◌, drop-cons, refl, sym, ◌∙◌, ap, ap₂, arith}
use Rattle.std.specs.List.{list_all}
use Rattle.std.specs.Cmp.Lexicographic.{pointwise}
use Rattle.std.proofs.lemmas.List.{length-take-le}
use Rattle.std.proofs.lemmas.List.Folds.{list_all-append}
use Rattle.std.proofs.lemmas.Bool.{false≢true}
use Rattle.larch_term.specs.Operator.{PlainOperator}
use Rattle.larch_term.specs.Tree.{Tree, app, forest_of}
use Rattle.larch_order.specs.declared.precedence.Ranked.{Ranked}
use Rattle.larch_base.specs.declared.way.Way.TheVariants.{RightToLeft}
use Rattle.larch_order.specs.declared.greater.Comparison.TheVariants.{Same, Above, Neither}
use Rattle.larch_order.specs.Precedence.{status_of}
use Rattle.larch_term.specs.Equality.{same_tree}
use Rattle.larch_order.specs.Greater.{OneHead, greater, comparison, some_reaches, last_greater}
use Rattle.larch_order.proofs.Irreflexive.{transitive}
use Rattle.larch_order.proofs.Ordering.{suc_inj, last_greater_cons, last_greater_unequal}
use Rattle.larch_term.proofs.Decided.{tree_Decides}
use Rattle.larch_base.proofs.Bools.{and_right, and_both, and_not_right, and_known_right, or_both, or_known_right}
use Rattle.larch_order.proofs.Below.{same_refl, none_reaches}
use Rattle.larch_order.proofs.Comparing.{allowed, forbidden, beat_last, stands, stands_same, told_same, told_above}
use Rattle.larch_order.proofs.Comparing.{told_neither}
use Rattle.larch_order.proofs.FromLeft.{reaches_append, back_below, argument_below, doesnt_reach, first_inj, rest_inj}
use Rattle.larch_order.proofs.FromLeft.{unequal, split_at}

-- lists of one length that go on differently before a common end

pointwise_refl : (ps : List Tree) → pointwise same_tree ps ps ≡ true
pointwise_refl [] = refl
pointwise_refl (p ∷ ps) = and_both (same_tree p p) (pointwise same_tree ps ps) (same_refl p) (pointwise_refl ps)

pointwise_differ : (xs ys : List Tree) (a b : Tree) (ps : List Tree) → length xs ≡ length ys → same_tree a b ≡ false
    → pointwise same_tree (xs ++ a ∷ ps) (ys ++ b ∷ ps) ≡ false
pointwise_differ [] [] a b ps len d = rw d refl
pointwise_differ [] (y ∷ ys) a b ps len d = cc
pointwise_differ (x ∷ xs) [] a b ps len d = cc
pointwise_differ (x ∷ xs) (y ∷ ys) a b ps len d =
    and_not_right (same_tree x y) (pointwise same_tree (xs ++ a ∷ ps) (ys ++ b ∷ ps))
    (pointwise_differ xs ys a b ps (suc_inj len) d)

last_decides : (ranks : List Ranked) (xs ys : List Tree) (a b : Tree) (ps : List Tree) → length xs ≡ length ys
    → same_tree a b ≡ false
    → last_greater ranks (forest_of (xs ++ a ∷ ps)) (ys ++ b ∷ ps) ≡ greater ranks a b
last_decides ranks [] [] a b ps len d = last_greater_cons ranks a b ps ps ∙ rw (pointwise_refl ps, d) refl
last_decides ranks [] (y ∷ ys) a b ps len d = cc
last_decides ranks (x ∷ xs) [] a b ps len d = cc
last_decides ranks (x ∷ xs) (y ∷ ys) a b ps len d =
    last_greater_cons ranks x y (xs ++ a ∷ ps) (ys ++ b ∷ ps)
    ∙ rw (pointwise_differ xs ys a b ps (suc_inj len) d) (last_decides ranks xs ys a b ps (suc_inj len) d)

before_inj : (xs ys : List Tree) (a b : Tree) (ps : List Tree) → length xs ≡ length ys
    → xs ++ a ∷ ps ≡ ys ++ b ∷ ps → a ≡ b
before_inj [] [] a b ps len e = first_inj a b ps ps e
before_inj [] (y ∷ ys) a b ps len e = cc
before_inj (x ∷ xs) [] a b ps len e = cc
before_inj (x ∷ xs) (y ∷ ys) a b ps len e =
    before_inj xs ys a b ps (suc_inj len) (rest_inj x y (xs ++ a ∷ ps) (ys ++ b ∷ ps) e)

last_above : (ranks : List Ranked) (f : PlainOperator) (xs ys : List Tree) (a b : Tree) (ps : List Tree)
    → status_of ranks f ≡ RightToLeft → length xs ≡ length ys → same_tree a b ≡ false → greater ranks a b ≡ true
    → greater ranks (app f (forest_of (xs ++ a ∷ ps))) (app f (forest_of (ys ++ b ∷ ps)))
    ≡ list_all (greater ranks (app f (forest_of (xs ++ a ∷ ps)))) ys
last_above ranks f xs ys a b ps way len d e =
    allowed ranks f f (xs ++ a ∷ ps) (ys ++ b ∷ ps)
    (beat_last ranks f (xs ++ a ∷ ps) (ys ++ b ∷ ps) way ∙ last_decides ranks xs ys a b ps len d ∙ e)
    ∙ list_all-append (greater ranks (app f (forest_of (xs ++ a ∷ ps)))) ys (b ∷ ps)
    ∙ and_known_right (list_all (greater ranks (app f (forest_of (xs ++ a ∷ ps)))) ys)
    (list_all (greater ranks (app f (forest_of (xs ++ a ∷ ps)))) (b ∷ ps))
    (and_both (greater ranks (app f (forest_of (xs ++ a ∷ ps))) b)
    (list_all (greater ranks (app f (forest_of (xs ++ a ∷ ps)))) ps)
    (transitive ranks (app f (forest_of (xs ++ a ∷ ps))) a b (argument_below ranks f xs a ps) e)
    (and_right (greater ranks (app f (forest_of (xs ++ a ∷ ps))) a)
    (list_all (greater ranks (app f (forest_of (xs ++ a ∷ ps)))) ps) (back_below ranks f xs (a ∷ ps))))

last_neither : (ranks : List Ranked) (f : PlainOperator) (xs ys : List Tree) (a b : Tree) (ps : List Tree)
    → status_of ranks f ≡ RightToLeft → length xs ≡ length ys → same_tree a b ≡ false → greater ranks a b ≡ false
    → greater ranks (app f (forest_of (xs ++ a ∷ ps))) (app f (forest_of (ys ++ b ∷ ps)))
    ≡ some_reaches ranks (forest_of xs) (app f (forest_of (ys ++ b ∷ ps)))
last_neither ranks f xs ys a b ps way len d e =
    forbidden ranks f f (xs ++ a ∷ ps) (ys ++ b ∷ ps)
    (beat_last ranks f (xs ++ a ∷ ps) (ys ++ b ∷ ps) way ∙ last_decides ranks xs ys a b ps len d ∙ e)
    ∙ reaches_append ranks xs (a ∷ ps) (app f (forest_of (ys ++ b ∷ ps)))
    ∙ or_known_right (some_reaches ranks (forest_of xs) (app f (forest_of (ys ++ b ∷ ps))))
    (some_reaches ranks (forest_of (a ∷ ps)) (app f (forest_of (ys ++ b ∷ ps))))
    (or_both (same_tree a (app f (forest_of (ys ++ b ∷ ps))) || greater ranks a (app f (forest_of (ys ++ b ∷ ps))))
    (some_reaches ranks (forest_of ps) (app f (forest_of (ys ++ b ∷ ps))))
    (doesnt_reach ranks (app f (forest_of (ys ++ b ∷ ps))) a b (argument_below ranks f ys b ps) e)
    (none_reaches ranks (app f (forest_of (ys ++ b ∷ ps))) ps
    (and_right (greater ranks (app f (forest_of (ys ++ b ∷ ps))) b)
    (list_all (greater ranks (app f (forest_of (ys ++ b ∷ ps)))) ps) (back_below ranks f ys (b ∷ ps)))))

-- terms with such arguments

pub above_before : (ranks : List Ranked) (f : PlainOperator) (ss ts xs ys ps : List Tree) (u v a b : Tree) (r : Bool)
    → u ≡ app f (forest_of ss) → v ≡ app f (forest_of ts) → status_of ranks f ≡ RightToLeft → length xs ≡ length ys
    → ss ≡ xs ++ a ∷ ps → ts ≡ ys ++ b ∷ ps → Above ≡ comparison ranks a b
    → r ≡ list_all (greater ranks u) ys → cond r Above Neither ≡ comparison ranks u v
above_before ranks f ss ts xs ys ps u v a b r p q way len x y told e =
    let t : (same_tree a b ≡ false) × (greater ranks a b ≡ true) = told_above ranks a b told in
    let d : same_tree u v ≡ false = unequal f ss ts u v p q
    (λ h. false≢true (sym t.0 ∙ (tree_Decides a b).1 (before_inj xs ys a b ps len (sym x ∙ h ∙ y)))) in
    let g : greater ranks u v ≡ list_all (greater ranks u) ys =
    rw (p, q, x, y) (last_above ranks f xs ys a b ps way len t.0 t.1) in
    ap (λ c. cond c Above Neither) e ∙ stands ranks u v (list_all (greater ranks u) ys) d g

pub neither_before : (ranks : List Ranked) (f : PlainOperator) (ss ts xs ys ps : List Tree) (u v a b : Tree) (r : Bool)
    → u ≡ app f (forest_of ss) → v ≡ app f (forest_of ts) → status_of ranks f ≡ RightToLeft → length xs ≡ length ys
    → ss ≡ xs ++ a ∷ ps → ts ≡ ys ++ b ∷ ps → Neither ≡ comparison ranks a b
    → r ≡ some_reaches ranks (forest_of xs) v → cond r Above Neither ≡ comparison ranks u v
neither_before ranks f ss ts xs ys ps u v a b r p q way len x y told e =
    let t : (same_tree a b ≡ false) × (greater ranks a b ≡ false) = told_neither ranks a b told in
    let d : same_tree u v ≡ false = unequal f ss ts u v p q
    (λ h. false≢true (sym t.0 ∙ (tree_Decides a b).1 (before_inj xs ys a b ps len (sym x ∙ h ∙ y)))) in
    let g : greater ranks u v ≡ some_reaches ranks (forest_of xs) v =
    rw (p, q, x, y) (last_neither ranks f xs ys a b ps way len t.0 t.1) in
    ap (λ c. cond c Above Neither) e ∙ stands ranks u v (some_reaches ranks (forest_of xs) v) d g

-- the same at a place

split_before : (ts ps : List Tree) (i j : ℕ) (t : Tree) → i + 1 ≡ j → j ≤ length ts → t ≡ get_or ts i t → drop j ts ≡ ps
    → ts ≡ take i ts ++ t ∷ ps
split_before ts ps i j t n le at e =
    split_at ts i t (omega arith) at ∙ ap (λ l. take i ts ++ t ∷ l) (ap (λ m. drop m ts) n ∙ e)

pub above_from : (ranks : List Ranked) (ss ts : List Tree) (u v a b : Tree) (i j : ℕ) (r : Bool)
    → OneHead ranks u ss v ts RightToLeft
    → length ss ≡ length ts → i + 1 ≡ j → j ≤ length ss → drop j ss ≡ drop j ts → a ≡ get_or ss i a → b ≡ get_or ts i b
    → Above ≡ comparison ranks a b
    → r ≡ list_all (greater ranks u) (take i ts) → cond r Above Neither ≡ comparison ranks u v
above_from ranks ss ts u v a b i j r h len n le back at at' told e =
    above_before ranks h.0 ss ts (take i ss) (take i ts) (drop j ts) u v a b r h.1.0 h.1.1.0 h.1.1.1
    (length-take-le i ss (omega arith) ∙ sym (length-take-le i ts (omega arith)))
    (split_before ss (drop j ts) i j a n le at back) (split_before ts (drop j ts) i j b n (omega arith) at' refl) told e

pub neither_from : (ranks : List Ranked) (ss ts : List Tree) (u v a b : Tree) (i j : ℕ) (r : Bool)
    → OneHead ranks u ss v ts RightToLeft
    → length ss ≡ length ts → i + 1 ≡ j → j ≤ length ss → drop j ss ≡ drop j ts → a ≡ get_or ss i a → b ≡ get_or ts i b
    → Neither ≡ comparison ranks a b
    → r ≡ some_reaches ranks (forest_of (take i ss)) v → cond r Above Neither ≡ comparison ranks u v
neither_from ranks ss ts u v a b i j r h len n le back at at' told e =
    neither_before ranks h.0 ss ts (take i ss) (take i ts) (drop j ts) u v a b r h.1.0 h.1.1.0 h.1.1.1
    (length-take-le i ss (omega arith) ∙ sym (length-take-le i ts (omega arith)))
    (split_before ss (drop j ts) i j a n le at back) (split_before ts (drop j ts) i j b n (omega arith) at' refl) told e

-- one place more is equal
pub same_back : (ranks : List Ranked) (ss ts : List Tree) (a b : Tree) (i j : ℕ) → length ss ≡ length ts → i + 1 ≡ j
    → j ≤ length ss → drop j ss ≡ drop j ts
    → a ≡ get_or ss i a → b ≡ get_or ts i b → Same ≡ comparison ranks a b → drop i ss ≡ drop i ts
same_back ranks ss ts a b i j len n le back at at' told =
    let m : suc i ≡ j = omega arith in
    drop-cons ss i a (omega arith)
    ∙ ap₂ (λ t l. t ∷ l) (sym at ∙ told_same ranks a b told ∙ at')
    (ap (λ k. drop k ss) m ∙ back ∙ sym (ap (λ k. drop k ts) m)) ∙ sym (drop-cons ts i b (omega arith))

-- all places are equal
pub all_same : (ranks : List Ranked) (ss ts : List Tree) (u v : Tree) (i : ℕ) → OneHead ranks u ss v ts RightToLeft
    → i ≤ 0 → drop i ss ≡ drop i ts → Same ≡ comparison ranks u v
all_same ranks ss ts u v i h z back =
    let n : i ≡ 0 = omega arith in
    stands_same ranks u v (h.1.0 ∙ ap (λ l. app h.0 (forest_of l)) (rw n at back) ∙ sym h.1.1.0)

-- lists of different lengths aren't compared
pub uneven : (ranks : List Ranked) (ss ts : List Tree) (u v : Tree) (r : Bool) → OneHead ranks u ss v ts RightToLeft
    → length ss ≢ length ts
    → r ≡ some_reaches ranks (forest_of ss) v → cond r Above Neither ≡ comparison ranks u v
uneven ranks ss ts u v r h len e =
    let d : same_tree u v ≡ false = unequal h.0 ss ts u v h.1.0 h.1.1.0 (λ q. len (ap length q)) in
    let g : greater ranks u v ≡ some_reaches ranks (forest_of ss) v =
    rw (h.1.0, h.1.1.0) (forbidden ranks h.0 h.0 ss ts
    (beat_last ranks h.0 ss ts h.1.1.1 ∙ sym (last_greater_unequal ranks ss ts len))) in
    ap (λ c. cond c Above Neither) e ∙ stands ranks u v (some_reaches ranks (forest_of ss) v) d g
