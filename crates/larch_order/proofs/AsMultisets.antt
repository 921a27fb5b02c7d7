-- Applications of one operator that compares its arguments as multisets.
use Rattle.std.proofs.Common.{◌≡◌, ℕ, suc, ◌+◌, ◌<◌, ◌≤◌, length, drop, get_or, drop-cons, ap₂, nat_lt, Bool, true}
use Rattle.std.proofs.Common.{false, cond, not, ◌&&◌, ◌||◌, List, [], ◌∷◌, refl, sym, ◌∙◌, ap, arith}
use Rattle.std.specs.List.{list_any, list_all}
use Rattle.std.proofs.lemmas.List.Sums.{sum_by-cons}
use Rattle.std.proofs.lemmas.Bool.{ltb-true, lt-ltb, ltb-false, false_from_ne_true, false≢true}
use Rattle.larch_term.specs.Operator.{PlainOperator}
use Rattle.larch_term.specs.Tree.{Tree, app, forest_of}
use Rattle.larch_order.specs.declared.precedence.Ranked.{Ranked}
use Rattle.larch_base.specs.declared.way.Way.TheVariants.{Multiset}
use Rattle.larch_order.specs.declared.greater.Comparison.TheVariants.{Above, Neither}
use Rattle.larch_term.specs.Equality.{same_tree}
use Rattle.larch_order.specs.Greater.{greater, comparison, multiset_greater, remains, count_of, some_reaches}
use Rattle.larch_order.specs.Greater.{some_beats}
use Rattle.larch_order.proofs.Irreflexive.{transitive}
use Rattle.larch_term.proofs.Decided.{tree_Decides}
use Rattle.larch_base.proofs.Bools.{and_left, and_right, and_both, and_not_left, and_not_right, or_left, or_right}
use Rattle.larch_base.proofs.Bools.{or_known_left}
use Rattle.larch_order.proofs.Below.{same_refl, below_is_other, arguments_below, reacher_above}
use Rattle.larch_order.proofs.Comparing.{allowed, forbidden, beat, beat_multiset, stands}
use Rattle.larch_order.specs.Greater.{OneHead}

all_where : (p q : Tree → Bool) (xs : List Tree) → ((x : Tree) → p x ≡ true → q x ≡ true) → list_all p xs ≡ true
    → list_all q xs ≡ true
all_where p q [] h e = refl
all_where p q (x ∷ xs) h e =
    and_both (q x) (list_all q xs) (h x (and_left (p x) (list_all p xs) e))
    (all_where p q xs h (and_right (p x) (list_all p xs) e))

count_cons : (t u : Tree) (us : List Tree) → count_of t (u ∷ us) ≡ cond (same_tree u t) 1 0 + count_of t us
count_cons t u us = sum_by-cons (λ w. cond (same_tree w t) 1 0) u us

-- one term more is counted
pub counted_next : (t u : Tree) (ts : List Tree) (i old new : ℕ) (b : Bool) → i < length ts → u ≡ get_or ts i u
    → b ≡ same_tree u t
    → (old + count_of t (drop i ts) ≡ count_of t ts) × (old ≤ i) → new ≡ cond b (old + 1) old
    → (new + count_of t (drop (i + 1) ts) ≡ count_of t ts) × (new ≤ i + 1)
counted_next t u ts i old new b lt at e h n =
    let k : suc i ≡ i + 1 = omega arith in
    let d : drop i ts ≡ u ∷ drop (i + 1) ts = drop-cons ts i u lt ∙ ap₂ (λ w j. w ∷ drop j ts) (sym at) k in
    let c : count_of t (drop i ts) ≡ cond b 1 0 + count_of t (drop (i + 1) ts) =
    ap (count_of t) d ∙ count_cons t u (drop (i + 1) ts)
    ∙ ap (λ a. cond a 1 0 + count_of t (drop (i + 1) ts)) (sym e) in
    by_answer b (count_of t (drop i ts)) (count_of t (drop (i + 1) ts)) (count_of t ts) c h n
  where
    by_answer : (b : Bool) (here later all : ℕ) → here ≡ cond b 1 0 + later → (old + here ≡ all) × (old ≤ i)
        → new ≡ cond b (old + 1) old → (new + later ≡ all) × (new ≤ i + 1)
    by_answer true here later all c h n = (omega (arith, c, h.0, n), omega (arith, h.1, n))
    by_answer false here later all c h n = (omega (arith, c, h.0, n), omega (arith, h.1, n))

counted_here : (u : Tree) (us : List Tree) → nat_lt 0 (count_of u (u ∷ us)) ≡ true
counted_here u us =
    let c : count_of u (u ∷ us) ≡ 1 + count_of u us =
    count_cons u u us ∙ ap (λ b. cond b 1 0 + count_of u us) (same_refl u) in
    lt-ltb 0 (count_of u (u ∷ us)) (omega arith)

counted_more : (t u : Tree) (us : List Tree) → nat_lt 0 (count_of t us) ≡ true → nat_lt 0 (count_of t (u ∷ us)) ≡ true
counted_more t u us e = lt-ltb 0 (count_of t (u ∷ us)) (omega (arith, count_cons t u us, ltb-true 0 (count_of t us) e))

-- each term of a list is counted there
each_counted : (us : List Tree) → list_all (λ w. nat_lt 0 (count_of w us)) us ≡ true
each_counted [] = refl
each_counted (u ∷ us) =
    and_both (nat_lt 0 (count_of u (u ∷ us))) (list_all (λ w. nat_lt 0 (count_of w (u ∷ us))) us) (counted_here u us)
    (all_where (λ w. nat_lt 0 (count_of w us)) (λ w. nat_lt 0 (count_of w (u ∷ us))) us (λ w e. counted_more w u us e)
    (each_counted us))

-- what is greater than each term of a list isn't there
not_counted : (ranks : List Ranked) (s : Tree) (ts : List Tree) → list_all (greater ranks s) ts ≡ true
    → count_of s ts ≡ 0
not_counted ranks s [] e = refl
not_counted ranks s (t ∷ ts) e =
    let d : same_tree t s ≡ false =
    below_is_other ranks s t (and_left (greater ranks s t) (list_all (greater ranks s) ts) e) in
    count_cons s t ts ∙ rw d (omega
    (arith, not_counted ranks s ts (and_right (greater ranks s t) (list_all (greater ranks s) ts) e)))

-- an argument that reaches the other term is left, and is greater than all that the other list has

abbrev Beats : List Ranked → List Tree → List Tree → List Tree → Type 0
Beats ranks ss ts us =
    (list_any (remains ss ts) us ≡ true) × (list_all (λ w. some_beats ranks (forest_of us) ss ts w) ts ≡ true)

beats_first : (ranks : List Ranked) (ss ts : List Tree) (u : Tree) (us : List Tree)
    → list_all (greater ranks u) ts ≡ true → nat_lt 0 (count_of u ss) ≡ true → Beats ranks ss ts (u ∷ us)
beats_first ranks ss ts u us below counted =
    let r : remains ss ts u ≡ true = rw (not_counted ranks u ts below) counted in (
      or_left (remains ss ts u) (list_any (remains ss ts) us) r,
      all_where (greater ranks u) (λ w. some_beats ranks (forest_of (u ∷ us)) ss ts w) ts
          (λ w e. or_left (remains ss ts u && greater ranks u w) (some_beats ranks (forest_of us) ss ts w)
          (and_both (remains ss ts u) (greater ranks u w) r e)) below,
    )

beats_more : (ranks : List Ranked) (ss ts : List Tree) (u : Tree) (us : List Tree) → Beats ranks ss ts us
    → Beats ranks ss ts (u ∷ us)
beats_more ranks ss ts u us h = (
  or_right (remains ss ts u) (list_any (remains ss ts) us) h.0,
  all_where (λ w. some_beats ranks (forest_of us) ss ts w) (λ w. some_beats ranks (forest_of (u ∷ us)) ss ts w) ts
      (λ w e. or_right (remains ss ts u && greater ranks u w) (some_beats ranks (forest_of us) ss ts w) e) h.1,
)

beats_by : (ranks : List Ranked) (ss ts : List Tree) (t u : Tree) (us : List Tree) (b : Bool)
    → (same_tree u t || greater ranks u t) ≡ b → list_all (greater ranks t) ts ≡ true → nat_lt 0 (count_of u ss) ≡ true
    → (some_reaches ranks (forest_of us) t ≡ true → Beats ranks ss ts us)
    → (b || some_reaches ranks (forest_of us) t) ≡ true → Beats ranks ss ts (u ∷ us)
beats_by ranks ss ts t u us true e below counted next h =
    beats_first ranks ss ts u us (reacher_above ranks u t ts e below) counted
beats_by ranks ss ts t u us false e below counted next h = beats_more ranks ss ts u us (next h)

reacher_beats : (ranks : List Ranked) (ss ts : List Tree) (t : Tree) (us : List Tree)
    → list_all (greater ranks t) ts ≡ true → list_all (λ w. nat_lt 0 (count_of w ss)) us ≡ true
    → some_reaches ranks (forest_of us) t ≡ true → Beats ranks ss ts us
reacher_beats ranks ss ts t [] below counted h = cc
reacher_beats ranks ss ts t (u ∷ us) below counted h =
    beats_by ranks ss ts t u us (same_tree u t || greater ranks u t) refl below
    (and_left (nat_lt 0 (count_of u ss)) (list_all (λ w. nat_lt 0 (count_of w ss)) us) counted)
    (reacher_beats ranks ss ts t us below
    (and_right (nat_lt 0 (count_of u ss)) (list_all (λ w. nat_lt 0 (count_of w ss)) us) counted)) h

pub reached_multiset : (ranks : List Ranked) (f : PlainOperator) (ss ts : List Tree)
    → some_reaches ranks (forest_of ss) (app f (forest_of ts)) ≡ true
    → multiset_greater (λ w. some_beats ranks (forest_of ss) ss ts w) ss ts ≡ true
reached_multiset ranks f ss ts h =
    let b : Beats ranks ss ts ss =
    reacher_beats ranks ss ts (app f (forest_of ts)) ss (arguments_below ranks f ts) (each_counted ss) h in
    and_both (list_any (remains ss ts) ss)
    (list_all (λ t. not (remains ts ss t) || some_beats ranks (forest_of ss) ss ts t) ts) b.0
    (all_where (λ w. some_beats ranks (forest_of ss) ss ts w)
    (λ t. not (remains ts ss t) || some_beats ranks (forest_of ss) ss ts t) ts
    (λ w e. or_right (not (remains ts ss w)) (some_beats ranks (forest_of ss) ss ts w) e) b.1)

-- where the arguments are greater as a multiset, the application is greater than each of the others

beaten_by : (ranks : List Ranked) (s u w : Tree) (r g : Bool) → greater ranks s u ≡ true → greater ranks u w ≡ g
    → (r && g) ≡ true → greater ranks s w ≡ true
beaten_by ranks s u w true true above e h = transitive ranks s u w above e
beaten_by ranks s u w true false above e h = cc
beaten_by ranks s u w false g above e h = cc

beaten_or : (ranks : List Ranked) (s u w : Tree) (r b x : Bool) → greater ranks s u ≡ true
    → (r && greater ranks u w) ≡ b → (x ≡ true → greater ranks s w ≡ true) → (b || x) ≡ true → greater ranks s w ≡ true
beaten_or ranks s u w r true x above e next h = beaten_by ranks s u w r (greater ranks u w) above refl e
beaten_or ranks s u w r false x above e next h = next h

beaten_below : (ranks : List Ranked) (s : Tree) (ss ts us : List Tree) (w : Tree) → list_all (greater ranks s) us ≡ true
    → some_beats ranks (forest_of us) ss ts w ≡ true → greater ranks s w ≡ true
beaten_below ranks s ss ts [] w below h = cc
beaten_below ranks s ss ts (u ∷ us) w below h =
    beaten_or ranks s u w (remains ss ts u) (remains ss ts u && greater ranks u w)
    (some_beats ranks (forest_of us) ss ts w)
    (and_left (greater ranks s u) (list_all (greater ranks s) us) below) refl
    (beaten_below ranks s ss ts us w (and_right (greater ranks s u) (list_all (greater ranks s) us) below)) h

found_or : (ranks : List Ranked) (s u w : Tree) (b : Bool) (n : ℕ) → same_tree u w ≡ b → greater ranks s u ≡ true
    → (0 < n → greater ranks s w ≡ true) → 0 < cond b 1 0 + n → greater ranks s w ≡ true
found_or ranks s u w true n e above next h = ap (greater ranks s) (sym ((tree_Decides u w).0 e)) ∙ above
found_or ranks s u w false n e above next h = let k : 0 < 0 + n = h in next (omega (arith, k))

counted_below : (ranks : List Ranked) (s : Tree) (us : List Tree) (w : Tree) → list_all (greater ranks s) us ≡ true
    → 0 < count_of w us → greater ranks s w ≡ true
counted_below ranks s [] w below h = absurd (omega arith)
counted_below ranks s (u ∷ us) w below h =
    found_or ranks s u w (same_tree u w) (count_of w us) refl
    (and_left (greater ranks s u) (list_all (greater ranks s) us) below)
    (counted_below ranks s us w (and_right (greater ranks s u) (list_all (greater ranks s) us) below))
    (omega (arith, count_cons w u us))

below_by : (ranks : List Ranked) (s : Tree) (ss ts : List Tree) (w : Tree) (r : Bool)
    → list_all (greater ranks s) ss ≡ true → remains ts ss w ≡ r → nat_lt 0 (count_of w ts) ≡ true
    → (not r || some_beats ranks (forest_of ss) ss ts w) ≡ true → greater ranks s w ≡ true
below_by ranks s ss ts w true below e counted h = beaten_below ranks s ss ts ss w below h
below_by ranks s ss ts w false below e counted h =
    counted_below ranks s ss w below
    (omega (arith, ltb-false (count_of w ss) (count_of w ts) e, ltb-true 0 (count_of w ts) counted))

each_below : (ranks : List Ranked) (s : Tree) (ss ts vs : List Tree) → list_all (greater ranks s) ss ≡ true
    → list_all (λ w. nat_lt 0 (count_of w ts)) vs ≡ true
    → list_all (λ t. not (remains ts ss t) || some_beats ranks (forest_of ss) ss ts t) vs ≡ true
    → list_all (greater ranks s) vs ≡ true
each_below ranks s ss ts [] below counted h = refl
each_below ranks s ss ts (v ∷ vs) below counted h =
    and_both (greater ranks s v) (list_all (greater ranks s) vs)
    (below_by ranks s ss ts v (remains ts ss v) below refl
    (and_left (nat_lt 0 (count_of v ts)) (list_all (λ w. nat_lt 0 (count_of w ts)) vs) counted)
    (and_left (not (remains ts ss v) || some_beats ranks (forest_of ss) ss ts v)
    (list_all (λ t. not (remains ts ss t) || some_beats ranks (forest_of ss) ss ts t) vs) h))
    (each_below ranks s ss ts vs below
    (and_right (nat_lt 0 (count_of v ts)) (list_all (λ w. nat_lt 0 (count_of w ts)) vs) counted)
    (and_right (not (remains ts ss v) || some_beats ranks (forest_of ss) ss ts v)
    (list_all (λ t. not (remains ts ss t) || some_beats ranks (forest_of ss) ss ts t) vs) h))

pub multiset_above : (ranks : List Ranked) (f : PlainOperator) (ss ts : List Tree)
    → multiset_greater (λ w. some_beats ranks (forest_of ss) ss ts w) ss ts ≡ true
    → list_all (greater ranks (app f (forest_of ss))) ts ≡ true
multiset_above ranks f ss ts h =
    each_below ranks (app f (forest_of ss)) ss ts ts (arguments_below ranks f ss) (each_counted ts)
    (and_right (list_any (remains ss ts) ss)
    (list_all (λ t. not (remains ts ss t) || some_beats ranks (forest_of ss) ss ts t) ts) h)

multiset_by : (ranks : List Ranked) (f : PlainOperator) (ss ts : List Tree) (b : Bool) → beat ranks f f ss ts ≡ b
    → multiset_greater (λ w. some_beats ranks (forest_of ss) ss ts w) ss ts ≡ b
    → greater ranks (app f (forest_of ss)) (app f (forest_of ts)) ≡ b
multiset_by ranks f ss ts true e m = allowed ranks f f ss ts e ∙ multiset_above ranks f ss ts m
multiset_by ranks f ss ts false e m =
    forbidden ranks f f ss ts e
    ∙ false_from_ne_true (some_reaches ranks (forest_of ss) (app f (forest_of ts)))
    (λ h. false≢true (sym m ∙ reached_multiset ranks f ss ts h))

-- the multisets alone decide
pub multisets : (ranks : List Ranked) (ss ts : List Tree) (u v : Tree) (r : Bool) → OneHead ranks u ss v ts Multiset
    → same_tree u v ≡ false
    → r ≡ multiset_greater (λ w. some_beats ranks (forest_of ss) ss ts w) ss ts
    → cond r Above Neither ≡ comparison ranks u v
multisets ranks ss ts u v r h d e =
    let g : greater ranks u v ≡ multiset_greater (λ w. some_beats ranks (forest_of ss) ss ts w) ss ts =
    rw (h.1.0, h.1.1.0) (multiset_by ranks h.0 ss ts
    (multiset_greater (λ w. some_beats ranks (forest_of ss) ss ts w) ss ts)
    (beat_multiset ranks h.0 ss ts h.1.1.1) refl) in
    ap (λ c. cond c Above Neither) e
    ∙ stands ranks u v (multiset_greater (λ w. some_beats ranks (forest_of ss) ss ts w) ss ts) d g

-- a term that doesn't remain, or isn't greater, is passed
pub beats_past : (ranks : List Ranked) (us ts : List Tree) (w u : Tree) (i : ℕ) (r : Bool) → i < length us
    → u ≡ get_or us i u → (remains us ts u && greater ranks u w) ≡ false
    → some_beats ranks (forest_of (drop i us)) us ts w ≡ r → some_beats ranks (forest_of (drop (i + 1) us)) us ts w ≡ r
beats_past ranks us ts w u i r lt at missed e =
    let n : suc i ≡ i + 1 = omega arith in
    let d : drop i us ≡ u ∷ drop (i + 1) us = drop-cons us i u lt ∙ ap₂ (λ t m. t ∷ drop m us) (sym at) n in
    sym (or_known_left (remains us ts u && greater ranks u w)
    (some_beats ranks (forest_of (drop (i + 1) us)) us ts w) missed)
    ∙ sym (ap (λ l. some_beats ranks (forest_of l) us ts w) d) ∙ e

pub not_remaining : (us ts : List Tree) (u : Tree) (b : Bool) → remains us ts u ≡ false → (remains us ts u && b) ≡ false
not_remaining us ts u b e = and_not_left (remains us ts u) b e

pub not_greater : (us ts : List Tree) (u : Tree) (b : Bool) → b ≡ false → (remains us ts u && b) ≡ false
not_greater us ts u b e = and_not_right (remains us ts u) b e
