-- Applications of one operator that compares its arguments from the left.
use Rattle.std.proofs.Common.{◌≡◌, ℕ, suc, ◌+◌, ◌<◌, ◌≤◌, length, take, drop, get_or, Bool, true, false, cond, ◌||◌}
use Rattle.std.proofs.Common.{List, [], ◌∷◌, ◌++◌, drop-cons, refl, sym, ◌∙◌, ap, ap₂, arith}
use Rattle.std.specs.List.{list_all}
use Rattle.std.proofs.lemmas.List.{take-append-drop, take_all, take_more}
use Rattle.std.proofs.lemmas.List.Folds.{list_all-append}
use Rattle.larch_term.specs.Operator.{PlainOperator}
use Rattle.larch_term.specs.Tree.{Tree, app, forest_of}
use Rattle.larch_term.proofs.TreeLists.{same_parts}
use Rattle.larch_order.specs.declared.precedence.Ranked.{Ranked}
use Rattle.larch_base.specs.declared.way.Way.TheVariants.{LeftToRight}
use Rattle.larch_order.specs.declared.greater.Comparison.TheVariants.{Same, Above, Neither}
use Rattle.larch_order.specs.Precedence.{status_of}
use Rattle.larch_term.specs.Equality.{same_tree}
use Rattle.std.proofs.lemmas.Bool.{false_from_ne_true, false≢true}
use Rattle.larch_term.proofs.Decided.{tree_Decides}
use Rattle.larch_order.specs.Greater.{OneHead, greater, comparison, some_reaches, first_greater}
use Rattle.larch_order.proofs.Irreflexive.{transitive}
use Rattle.larch_base.proofs.Bools.{and_left, and_right, and_known_left, or_both, or_known_left, or_assoc}
use Rattle.larch_order.proofs.Below.{different, same_refl, arguments_below, none_reaches}
use Rattle.larch_order.proofs.Comparing.{allowed, forbidden, beat_first, stands, stands_same, told_same, told_above}
use Rattle.larch_order.proofs.Comparing.{told_neither}

-- lists that go on differently behind a common front

first_decides : (ranks : List Ranked) (ps : List Tree) (a b : Tree) (xs ys : List Tree) → same_tree a b ≡ false
    → first_greater ranks (forest_of (ps ++ a ∷ xs)) (ps ++ b ∷ ys) ≡ greater ranks a b
first_decides ranks [] a b xs ys d = rw d refl
first_decides ranks (p ∷ ps) a b xs ys d = rw (same_refl p) (first_decides ranks ps a b xs ys d)

first_past : (ranks : List Ranked) (ps xs : List Tree) → first_greater ranks (forest_of (ps ++ xs)) ps ≡ false
first_past ranks [] [] = refl
first_past ranks [] (x ∷ xs) = refl
first_past ranks (p ∷ ps) xs = rw (same_refl p) (first_past ranks ps xs)

first_ended : (ranks : List Ranked) (ps ys : List Tree) → first_greater ranks (forest_of ps) (ps ++ ys) ≡ false
first_ended ranks [] ys = refl
first_ended ranks (p ∷ ps) ys = rw (same_refl p) (first_ended ranks ps ys)

pub reaches_append : (ranks : List Ranked) (ps xs : List Tree) (t : Tree)
    → some_reaches ranks (forest_of (ps ++ xs)) t
    ≡ (some_reaches ranks (forest_of ps) t || some_reaches ranks (forest_of xs) t)
reaches_append ranks [] xs t = refl
reaches_append ranks (p ∷ ps) xs t =
    ap (λ b. (same_tree p t || greater ranks p t) || b) (reaches_append ranks ps xs t)
    ∙ or_assoc (same_tree p t || greater ranks p t) (some_reaches ranks (forest_of ps) t)
    (some_reaches ranks (forest_of xs) t)

-- what an application is greater than each of, of its arguments and of what an argument is greater than
front_below : (ranks : List Ranked) (f : PlainOperator) (ps xs : List Tree)
    → list_all (greater ranks (app f (forest_of (ps ++ xs)))) ps ≡ true
front_below ranks f ps xs =
    and_left (list_all (greater ranks (app f (forest_of (ps ++ xs)))) ps)
    (list_all (greater ranks (app f (forest_of (ps ++ xs)))) xs)
    (sym (list_all-append (greater ranks (app f (forest_of (ps ++ xs)))) ps xs) ∙ arguments_below ranks f (ps ++ xs))

pub back_below : (ranks : List Ranked) (f : PlainOperator) (ps xs : List Tree)
    → list_all (greater ranks (app f (forest_of (ps ++ xs)))) xs ≡ true
back_below ranks f ps xs =
    and_right (list_all (greater ranks (app f (forest_of (ps ++ xs)))) ps)
    (list_all (greater ranks (app f (forest_of (ps ++ xs)))) xs)
    (sym (list_all-append (greater ranks (app f (forest_of (ps ++ xs)))) ps xs) ∙ arguments_below ranks f (ps ++ xs))

pub argument_below : (ranks : List Ranked) (f : PlainOperator) (ps : List Tree) (a : Tree) (xs : List Tree)
    → greater ranks (app f (forest_of (ps ++ a ∷ xs))) a ≡ true
argument_below ranks f ps a xs =
    and_left (greater ranks (app f (forest_of (ps ++ a ∷ xs))) a)
    (list_all (greater ranks (app f (forest_of (ps ++ a ∷ xs)))) xs) (back_below ranks f ps (a ∷ xs))

-- an argument that isn't the other one and isn't greater doesn't reach what that one is an argument of
pub doesnt_reach : (ranks : List Ranked) (t a b : Tree) → greater ranks t b ≡ true → greater ranks a b ≡ false
    → (same_tree a t || greater ranks a t) ≡ false
doesnt_reach ranks t a b below e =
    or_both (same_tree a t) (greater ranks a t)
    (different a t (λ p. false≢true (sym e ∙ ap (λ v. greater ranks v b) p ∙ below)))
    (false_from_ne_true (greater ranks a t) (λ h. false≢true (sym e ∙ transitive ranks a t b h below)))

first_above : (ranks : List Ranked) (f : PlainOperator) (ps : List Tree) (a b : Tree) (xs ys : List Tree)
    → status_of ranks f ≡ LeftToRight → same_tree a b ≡ false → greater ranks a b ≡ true
    → greater ranks (app f (forest_of (ps ++ a ∷ xs))) (app f (forest_of (ps ++ b ∷ ys)))
    ≡ list_all (greater ranks (app f (forest_of (ps ++ a ∷ xs)))) ys
first_above ranks f ps a b xs ys way d e =
    allowed ranks f f (ps ++ a ∷ xs) (ps ++ b ∷ ys)
    (beat_first ranks f (ps ++ a ∷ xs) (ps ++ b ∷ ys) way ∙ first_decides ranks ps a b xs ys d ∙ e)
    ∙ list_all-append (greater ranks (app f (forest_of (ps ++ a ∷ xs)))) ps (b ∷ ys)
    ∙ and_known_left (list_all (greater ranks (app f (forest_of (ps ++ a ∷ xs)))) ps)
    (list_all (greater ranks (app f (forest_of (ps ++ a ∷ xs)))) (b ∷ ys)) (front_below ranks f ps (a ∷ xs))
    ∙ and_known_left (greater ranks (app f (forest_of (ps ++ a ∷ xs))) b)
    (list_all (greater ranks (app f (forest_of (ps ++ a ∷ xs)))) ys)
    (transitive ranks (app f (forest_of (ps ++ a ∷ xs))) a b (argument_below ranks f ps a xs) e)

first_neither : (ranks : List Ranked) (f : PlainOperator) (ps : List Tree) (a b : Tree) (xs ys : List Tree)
    → status_of ranks f ≡ LeftToRight → same_tree a b ≡ false → greater ranks a b ≡ false
    → greater ranks (app f (forest_of (ps ++ a ∷ xs))) (app f (forest_of (ps ++ b ∷ ys)))
    ≡ some_reaches ranks (forest_of xs) (app f (forest_of (ps ++ b ∷ ys)))
first_neither ranks f ps a b xs ys way d e =
    forbidden ranks f f (ps ++ a ∷ xs) (ps ++ b ∷ ys)
    (beat_first ranks f (ps ++ a ∷ xs) (ps ++ b ∷ ys) way ∙ first_decides ranks ps a b xs ys d ∙ e)
    ∙ reaches_append ranks ps (a ∷ xs) (app f (forest_of (ps ++ b ∷ ys)))
    ∙ or_known_left (some_reaches ranks (forest_of ps) (app f (forest_of (ps ++ b ∷ ys))))
    (some_reaches ranks (forest_of (a ∷ xs)) (app f (forest_of (ps ++ b ∷ ys))))
    (none_reaches ranks (app f (forest_of (ps ++ b ∷ ys))) ps (front_below ranks f ps (b ∷ ys)))
    ∙ or_known_left (same_tree a (app f (forest_of (ps ++ b ∷ ys)))
    || greater ranks a (app f (forest_of (ps ++ b ∷ ys))))
    (some_reaches ranks (forest_of xs) (app f (forest_of (ps ++ b ∷ ys))))
    (doesnt_reach ranks (app f (forest_of (ps ++ b ∷ ys))) a b (argument_below ranks f ps b ys) e)

past_by : (ranks : List Ranked) (f : PlainOperator) (ps xs : List Tree) → status_of ranks f ≡ LeftToRight
    → greater ranks (app f (forest_of (ps ++ xs))) (app f (forest_of ps))
    ≡ some_reaches ranks (forest_of xs) (app f (forest_of ps))
past_by ranks f ps xs way =
    forbidden ranks f f (ps ++ xs) ps (beat_first ranks f (ps ++ xs) ps way ∙ first_past ranks ps xs)
    ∙ reaches_append ranks ps xs (app f (forest_of ps))
    ∙ or_known_left (some_reaches ranks (forest_of ps) (app f (forest_of ps)))
    (some_reaches ranks (forest_of xs) (app f (forest_of ps)))
    (none_reaches ranks (app f (forest_of ps)) ps (arguments_below ranks f ps))

ended_by : (ranks : List Ranked) (f : PlainOperator) (ps ys : List Tree) → status_of ranks f ≡ LeftToRight
    → greater ranks (app f (forest_of ps)) (app f (forest_of (ps ++ ys))) ≡ false
ended_by ranks f ps ys way =
    forbidden ranks f f ps (ps ++ ys) (beat_first ranks f ps (ps ++ ys) way ∙ first_ended ranks ps ys)
    ∙ none_reaches ranks (app f (forest_of (ps ++ ys))) ps (front_below ranks f ps ys)

-- terms with such arguments

pub first_inj : (a b : Tree) (xs ys : List Tree) → a ∷ xs ≡ b ∷ ys → a ≡ b
first_inj a b xs ys e = cc

pub rest_inj : (a b : Tree) (xs ys : List Tree) → a ∷ xs ≡ b ∷ ys → xs ≡ ys
rest_inj a b xs ys e = cc

behind_inj : (ps : List Tree) (a b : Tree) (xs ys : List Tree) → ps ++ a ∷ xs ≡ ps ++ b ∷ ys → a ≡ b
behind_inj [] a b xs ys e = first_inj a b xs ys e
behind_inj (p ∷ ps) a b xs ys e = behind_inj ps a b xs ys (rest_inj p p (ps ++ a ∷ xs) (ps ++ b ∷ ys) e)

pub unequal : (f : PlainOperator) (ss ts : List Tree) (u v : Tree) → u ≡ app f (forest_of ss) → v ≡ app f (forest_of ts)
    → (ss ≡ ts → ⊥) → same_tree u v ≡ false
unequal f ss ts u v p q h = different u v (λ e. h ((same_parts f f ss ts (sym p ∙ e ∙ q)).1))

pub above_behind : (ranks : List Ranked) (f : PlainOperator) (ss ts ps xs ys : List Tree) (u v a b : Tree) (r : Bool)
    → u ≡ app f (forest_of ss) → v ≡ app f (forest_of ts) → status_of ranks f ≡ LeftToRight → ss ≡ ps ++ a ∷ xs
    → ts ≡ ps ++ b ∷ ys → Above ≡ comparison ranks a b
    → r ≡ list_all (greater ranks u) ys → cond r Above Neither ≡ comparison ranks u v
above_behind ranks f ss ts ps xs ys u v a b r p q way x y told e =
    let t : (same_tree a b ≡ false) × (greater ranks a b ≡ true) = told_above ranks a b told in
    let d : same_tree u v ≡ false = unequal f ss ts u v p q
    (λ h. false≢true (sym t.0 ∙ (tree_Decides a b).1 (behind_inj ps a b xs ys (sym x ∙ h ∙ y)))) in
    let g : greater ranks u v ≡ list_all (greater ranks u) ys =
    rw (p, q, x, y) (first_above ranks f ps a b xs ys way t.0 t.1) in
    ap (λ c. cond c Above Neither) e ∙ stands ranks u v (list_all (greater ranks u) ys) d g

pub neither_behind : (ranks : List Ranked) (f : PlainOperator) (ss ts ps xs ys : List Tree) (u v a b : Tree) (r : Bool)
    → u ≡ app f (forest_of ss) → v ≡ app f (forest_of ts) → status_of ranks f ≡ LeftToRight → ss ≡ ps ++ a ∷ xs
    → ts ≡ ps ++ b ∷ ys → Neither ≡ comparison ranks a b
    → r ≡ some_reaches ranks (forest_of xs) v → cond r Above Neither ≡ comparison ranks u v
neither_behind ranks f ss ts ps xs ys u v a b r p q way x y told e =
    let t : (same_tree a b ≡ false) × (greater ranks a b ≡ false) = told_neither ranks a b told in
    let d : same_tree u v ≡ false = unequal f ss ts u v p q
    (λ h. false≢true (sym t.0 ∙ (tree_Decides a b).1 (behind_inj ps a b xs ys (sym x ∙ h ∙ y)))) in
    let g : greater ranks u v ≡ some_reaches ranks (forest_of xs) v =
    rw (p, q, x, y) (first_neither ranks f ps a b xs ys way t.0 t.1) in
    ap (λ c. cond c Above Neither) e ∙ stands ranks u v (some_reaches ranks (forest_of xs) v) d g

-- the same at a place

pub split_at : (ts : List Tree) (i : ℕ) (t : Tree) → i < length ts → t ≡ get_or ts i t
    → ts ≡ take i ts ++ t ∷ drop (i + 1) ts
split_at ts i t lt at =
    let n : suc i ≡ i + 1 = omega arith in
    let d : drop i ts ≡ t ∷ drop (i + 1) ts = drop-cons ts i t lt ∙ ap₂ (λ u m. u ∷ drop m ts) (sym at) n in
    sym (take-append-drop i ts) ∙ ap (λ l. take i ts ++ l) d

pub above_at : (ranks : List Ranked) (ss ts : List Tree) (u v a b : Tree) (i : ℕ) (r : Bool)
    → OneHead ranks u ss v ts LeftToRight
    → take i ss ≡ take i ts → i < length ss → i < length ts → a ≡ get_or ss i a → b ≡ get_or ts i b
    → Above ≡ comparison ranks a b
    → r ≡ list_all (greater ranks u) (drop (i + 1) ts) → cond r Above Neither ≡ comparison ranks u v
above_at ranks ss ts u v a b i r h front lt lt' at at' told e =
    above_behind ranks h.0 ss ts (take i ss) (drop (i + 1) ss) (drop (i + 1) ts) u v a b r h.1.0 h.1.1.0 h.1.1.1
    (split_at ss i a lt at) (split_at ts i b lt' at' ∙ ap (λ l. l ++ b ∷ drop (i + 1) ts) (sym front)) told e

pub neither_at : (ranks : List Ranked) (ss ts : List Tree) (u v a b : Tree) (i : ℕ) (r : Bool)
    → OneHead ranks u ss v ts LeftToRight
    → take i ss ≡ take i ts → i < length ss → i < length ts → a ≡ get_or ss i a → b ≡ get_or ts i b
    → Neither ≡ comparison ranks a b
    → r ≡ some_reaches ranks (forest_of (drop (i + 1) ss)) v → cond r Above Neither ≡ comparison ranks u v
neither_at ranks ss ts u v a b i r h front lt lt' at at' told e =
    neither_behind ranks h.0 ss ts (take i ss) (drop (i + 1) ss) (drop (i + 1) ts) u v a b r h.1.0 h.1.1.0 h.1.1.1
    (split_at ss i a lt at) (split_at ts i b lt' at' ∙ ap (λ l. l ++ b ∷ drop (i + 1) ts) (sym front)) told e

-- one place more is equal
pub same_more : (ranks : List Ranked) (ss ts : List Tree) (a b : Tree) (i : ℕ) → take i ss ≡ take i ts → i < length ss
    → i < length ts
    → a ≡ get_or ss i a → b ≡ get_or ts i b → Same ≡ comparison ranks a b → take (i + 1) ss ≡ take (i + 1) ts
same_more ranks ss ts a b i front lt lt' at at' told =
    take_more ss i a lt ∙ ap₂ (λ l t. l ++ t ∷ []) front (sym at ∙ told_same ranks a b told ∙ at')
    ∙ sym (take_more ts i b lt')

-- the second list has ended
pub past_at : (ranks : List Ranked) (ss ts : List Tree) (u v : Tree) (i : ℕ) (r : Bool)
    → OneHead ranks u ss v ts LeftToRight
    → take i ss ≡ take i ts → i < length ss → length ts ≤ i
    → r ≡ some_reaches ranks (forest_of (drop i ss)) v → cond r Above Neither ≡ comparison ranks u v
past_at ranks ss ts u v i r h front lt le e =
    let y : take i ss ≡ ts = front ∙ take_all i ts le in
    let x : ss ≡ ts ++ drop i ss = sym (take-append-drop i ss) ∙ ap (λ l. l ++ drop i ss) y in
    let d : same_tree u v ≡ false = unequal h.0 ss ts u v h.1.0 h.1.1.0 (λ q. absurd (omega (arith, ap length q))) in
    let g : greater ranks u v ≡ some_reaches ranks (forest_of (drop i ss)) v =
    ap₂ (greater ranks) (h.1.0 ∙ ap (λ l. app h.0 (forest_of l)) x) h.1.1.0 ∙ past_by ranks h.0 ts (drop i ss) h.1.1.1
    ∙ ap (some_reaches ranks (forest_of (drop i ss))) (sym h.1.1.0) in
    ap (λ c. cond c Above Neither) e ∙ stands ranks u v (some_reaches ranks (forest_of (drop i ss)) v) d g

-- both have ended
pub ended_at : (ranks : List Ranked) (ss ts : List Tree) (u v : Tree) (i : ℕ) → OneHead ranks u ss v ts LeftToRight
    → take i ss ≡ take i ts → length ss ≤ i → length ss ≡ length ts → Same ≡ comparison ranks u v
ended_at ranks ss ts u v i h front le len =
    stands_same ranks u v
    (h.1.0 ∙ ap (λ l. app h.0 (forest_of l)) (sym (take_all i ss le) ∙ front ∙ take_all i ts (rw len at le))
    ∙ sym h.1.1.0)

-- the first list alone has
pub short_at : (ranks : List Ranked) (ss ts : List Tree) (u v : Tree) (i : ℕ) → OneHead ranks u ss v ts LeftToRight
    → take i ss ≡ take i ts → length ss ≤ i → i ≤ length ss → (length ss ≡ length ts → ⊥)
    → Neither ≡ comparison ranks u v
short_at ranks ss ts u v i h front le ge len =
    let y : take i ts ≡ ss = sym front ∙ take_all i ss le in
    let x : ts ≡ ss ++ drop i ts = sym (take-append-drop i ts) ∙ ap (λ l. l ++ drop i ts) y in
    let d : same_tree u v ≡ false = unequal h.0 ss ts u v h.1.0 h.1.1.0 (λ q. len (ap length q)) in
    let g : greater ranks u v ≡ false = ap₂ (greater ranks) h.1.0 (h.1.1.0 ∙ ap (λ l. app h.0 (forest_of l)) x)
    ∙ ended_by ranks h.0 ss (drop i ts) h.1.1.1 in
    stands ranks u v false d g
