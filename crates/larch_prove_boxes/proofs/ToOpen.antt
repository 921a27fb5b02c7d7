-- Which constants of a term aren't open, part by part.
use Rattle.std.specs.Prelude.{◌≡◌, ◌<◌, ◌+◌, ◌&&◌, ℕ, Bool, true, false, cond, not, List, [], ◌∷◌, ◌++◌}
use Rattle.std.specs.Prelude.{drop, get_or, length}
use Rattle.std.proofs.Common.{ap, sym, ◌∙◌}
use Rattle.std.proofs.lemmas.List.{append_assoc, append-nil, drop_more}
use Rattle.larch_term.specs.Operator.{PlainOperator}
use Rattle.larch_term.specs.Tree.{Tree, forest_of}
use Rattle.larch_prove_invariant.specs.Unopened.{is_among, operators_in, operators_in_all, unopened_of}

-- with the first of them listed, or left out
abbrev listed_if : Bool → List PlainOperator → List PlainOperator → PlainOperator → List PlainOperator
    → List PlainOperator
listed_if b block opened f fs = cond b (f ∷ unopened_of block (opened ++ f ∷ []) fs) (unopened_of block opened fs)

-- those of a list and of a further one
append_by : (b : Bool) (block opened : List PlainOperator) (f : PlainOperator) (fs gs : List PlainOperator)
    → ((now : List PlainOperator) → unopened_of block now (fs ++ gs)
    ≡ unopened_of block now fs ++ unopened_of block (now ++ unopened_of block now fs) gs)
    → listed_if b block opened f (fs ++ gs)
    ≡ listed_if b block opened f fs ++ unopened_of block (opened ++ listed_if b block opened f fs) gs
append_by true block opened f fs gs rest =
    let here = opened ++ f ∷ [] in
    let those = unopened_of block here fs in
    ap (λ hs. f ∷ hs) (rest here
    ∙ ap (λ hs. those ++ unopened_of block hs gs) (append_assoc opened (f ∷ []) those))
append_by false block opened f fs gs rest = rest opened

pub unopened_append : (block opened fs gs : List PlainOperator)
    → unopened_of block opened (fs ++ gs)
    ≡ unopened_of block opened fs ++ unopened_of block (opened ++ unopened_of block opened fs) gs
unopened_append block opened [] gs = ap (λ hs. unopened_of block hs gs) (sym (append-nil opened))
unopened_append block opened (f ∷ fs) gs =
    append_by (is_among block f && not (is_among opened f)) block opened f fs gs
    (λ now. unopened_append block now fs gs)

-- those of a part are found, and then those of a further part behind them
pub unopened_on : (block opened found more fs gs : List PlainOperator)
    → more ≡ found ++ unopened_of block (opened ++ found) fs
    → more ++ unopened_of block (opened ++ more) gs ≡ found ++ unopened_of block (opened ++ found) (fs ++ gs)
unopened_on block opened found more fs gs e =
    let here = opened ++ found in
    let those = unopened_of block here fs in
    ap (λ hs. hs ++ unopened_of block (opened ++ hs) gs) e
    ∙ (append_assoc found those (unopened_of block (opened ++ (found ++ those)) gs)
    ∙ (ap (λ hs. found ++ (those ++ unopened_of block hs gs)) (sym (append_assoc opened found those))
    ∙ ap (λ hs. found ++ hs) (sym (unopened_append block here fs gs))))

-- a term's, and then those of the terms behind it
pub unopened_next : (block opened found more : List PlainOperator) (ts : List Tree) (i : ℕ) (t : Tree)
    (all : List PlainOperator) → i < length ts → t ≡ get_or ts i t
    → more ≡ found ++ unopened_of block (opened ++ found) (operators_in t)
    → found ++ unopened_of block (opened ++ found) (operators_in_all (forest_of (drop i ts))) ≡ all
    → more ++ unopened_of block (opened ++ more) (operators_in_all (forest_of (drop (i + 1) ts))) ≡ all
unopened_next block opened found more ts i t all lt q e h =
    let here : drop i ts ≡ t ∷ drop (i + 1) ts = drop_more ts i t lt ∙ ap (λ u. u ∷ drop (i + 1) ts) (sym q) in
    unopened_on block opened found more (operators_in t) (operators_in_all (forest_of (drop (i + 1) ts))) e
    ∙ (ap (λ us. found ++ unopened_of block (opened ++ found) (operators_in_all (forest_of us))) (sym here) ∙ h)
