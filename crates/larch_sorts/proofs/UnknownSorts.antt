-- The first sort that doesn't exist.
use Rattle.std.proofs.Common.{◌≡◌, ℕ, zero, suc, ◌+◌, ◌<◌, ◌≤◌, Bool, true, false, not, cond, List, [], ◌∷◌, ◌++◌, drop}
use Rattle.std.proofs.Common.{get_or, length, Some, None, refl, sym, ◌∙◌, ap, arith}
use Rattle.std.specs.List.{find}
use Rattle.std.specs.Option.{option_map, option_or}
use Rattle.std.proofs.lemmas.List.Folds.{find-append}
use Rattle.std.proofs.lemmas.List.{drop_more}
use Rattle.larch_base.specs.declared.position.Pos.{Pos}
use Rattle.larch_base.proofs.Options.{map_or}
use Rattle.larch_raw.specs.RawTree.{RawTree, raw_forest}
use Rattle.larch_raw.specs.declared.declared.RawWord.{RawWord}
use Rattle.larch_term.specs.Operator.{PlainOperator}
use Rattle.larch_sorts_signature.specs.SortsKnownSorts.{exists_sort}
use Rattle.larch_sorts_signature.specs.SortsMeaningUnknown.{unknown_among, sort_words, sort_words_of}

unknown_append : (fs : List PlainOperator) (xs ys : List RawWord)
    → unknown_among fs (xs ++ ys) ≡ option_or (unknown_among fs xs) (unknown_among fs ys)
unfolding unknown_among
unknown_append fs xs ys =
    ap (option_map (λ w. w.pos)) (find-append (λ w. not (exists_sort fs w.name)) xs ys)
    ∙ map_or (λ w. w.pos) (find (λ w. not (exists_sort fs w.name)) xs) (find (λ w. not (exists_sort fs w.name)) ys)

-- what is unknown among the first is unknown among all
pub unknown_first : (fs : List PlainOperator) (xs ys : List RawWord) (pos : Pos) → Some pos ≡ unknown_among fs xs
    → unknown_among fs (xs ++ ys) ≡ Some pos
unknown_first fs xs ys pos e = unknown_append fs xs ys ∙ ap (λ x. option_or x (unknown_among fs ys)) (sym e)

-- what is known first leaves the position to the rest
pub known_first : (fs : List PlainOperator) (xs ys : List RawWord) → None ≡ unknown_among fs xs
    → unknown_among fs (xs ++ ys) ≡ unknown_among fs ys
known_first fs xs ys e = unknown_append fs xs ys ∙ ap (λ x. option_or x (unknown_among fs ys)) (sym e)

-- nothing is known last
pub known_last : (fs : List PlainOperator) → unknown_among fs [] ≡ None
unfolding unknown_among
known_last fs = refl

by_test : (w : RawWord) (b : Bool) → option_map (λ v. v.pos) (cond (not b) (Some w) None) ≡ cond b None (Some w.pos)
by_test w true = refl
by_test w false = refl

-- one sort
pub unknown_one : (fs : List PlainOperator) (w : RawWord)
    → unknown_among fs (w ∷ []) ≡ cond (exists_sort fs w.name) None (Some w.pos)
unfolding unknown_among
unknown_one fs w = by_test w (exists_sort fs w.name)

words_from : (raws : List RawTree) (i : ℕ) (raw : RawTree) → i < length raws → raw ≡ get_or raws i raw
    → sort_words_of (raw_forest (drop i raws)) ≡ sort_words raw ++ sort_words_of (raw_forest (drop (i + 1) raws))
words_from raws i raw lt e =
    ap (λ x. sort_words_of (raw_forest x)) (drop_more raws i raw lt ∙ ap (λ x. x ∷ drop (i + 1) raws) (sym e))

-- an unknown sort in an argument
pub argument_unknown : (fs : List PlainOperator) (raws : List RawTree) (i : ℕ) (raw : RawTree) (pos : Pos)
    → i < length raws → raw ≡ get_or raws i raw → Some pos ≡ unknown_among fs (sort_words raw)
    → Some pos ≡ unknown_among fs (sort_words_of (raw_forest (drop i raws)))
argument_unknown fs raws i raw pos lt e u =
    sym (ap (unknown_among fs) (words_from raws i raw lt e)
    ∙ unknown_first fs (sort_words raw) (sort_words_of (raw_forest (drop (i + 1) raws))) pos u)

-- no unknown sort in an argument
pub argument_known : (fs : List PlainOperator) (raws : List RawTree) (i : ℕ) (raw : RawTree) → i < length raws
    → raw ≡ get_or raws i raw → None ≡ unknown_among fs (sort_words raw)
    → unknown_among fs (sort_words_of (raw_forest (drop (i + 1) raws)))
    ≡ unknown_among fs (sort_words_of (raw_forest (drop i raws)))
argument_known fs raws i raw lt e u =
    sym (ap (unknown_among fs) (words_from raws i raw lt e)
    ∙ known_first fs (sort_words raw) (sort_words_of (raw_forest (drop (i + 1) raws))) u)

-- behind the last argument nothing is unknown
pub nothing_unknown : (fs : List PlainOperator) (raws : List RawTree) (i : ℕ) → length raws ≤ i
    → None ≡ unknown_among fs (sort_words_of (raw_forest (drop i raws)))
unfolding unknown_among
nothing_unknown fs [] zero l = refl
nothing_unknown fs [] (suc i) l = refl
nothing_unknown fs (raw ∷ raws) zero l = absurd (omega (arith, l))
nothing_unknown fs (raw ∷ raws) (suc i) l = nothing_unknown fs raws i (omega (arith, l))
