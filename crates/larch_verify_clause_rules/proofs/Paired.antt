-- Lists of statements, compared in turn.
use Rattle.std.proofs.Common.{◌≡◌, ◌≢◌, ℕ, ◌+◌, ◌<◌, Bool, true, false, not, ◌&&◌, ◌||◌, List, length, map, drop}
use Rattle.std.proofs.Common.{get_or, refl, sym, ◌∙◌, ap}
use Rattle.std.specs.List.{list_all, list_any}
use Rattle.std.specs.Cmp.Lexicographic.{pointwise, unequal}
use Rattle.std.proofs.lemmas.List.{drop_more, length-map}
use Rattle.larch_term.specs.Equality.{same_statement}
use Rattle.larch_term.specs.declared.statement.Statement.{Statement}

-- the first that are left are compared, and then what is behind them
pub paired : {X Y : Type 0} (f : X → Statement) (g : Y → Statement) (xs : List X) (ys : List Y) (i : ℕ) (d : X) (e : Y)
    → i < length xs → i < length ys
    → pointwise same_statement (map f (drop i xs)) (map g (drop i ys))
    ≡ (same_statement (f (get_or xs i d)) (g (get_or ys i e))
    && pointwise same_statement (map f (drop (i + 1) xs)) (map g (drop (i + 1) ys)))
paired f g xs ys i d e lx ly =
    λ j. pointwise same_statement (map f (drop_more xs i d lx j)) (map g (drop_more ys i e ly j))

-- lists of different lengths differ
pub unpaired : {X Y : Type 0} (f : X → Statement) (g : Y → Statement) (xs : List X) (ys : List Y)
    → length xs ≢ length ys
    → pointwise same_statement (map f xs) (map g ys) ≡ false
unpaired f g xs ys n =
    unequal same_statement (map f xs) (map g ys) (λ e. n (sym (length-map xs f) ∙ e ∙ length-map ys g))

-- tests of what is left
pub all_next : {X Y : Type 0} (test : Y → Bool) (f : X → Y) (xs : List X) (i : ℕ) (x : X) → i < length xs
    → x ≡ get_or xs i x
    → list_all test (map f (drop i xs)) ≡ (test (f x) && list_all test (map f (drop (i + 1) xs)))
all_next test f xs i x l e =
    ap (λ ys. list_all test (map f ys)) (drop_more xs i x l)
    ∙ ap (λ y. test (f y) && list_all test (map f (drop (i + 1) xs))) (sym e)

pub any_next : {X : Type 0} (test : X → Bool) (xs : List X) (i : ℕ) (x : X) → i < length xs → x ≡ get_or xs i x
    → list_any test (drop i xs) ≡ (test x || list_any test (drop (i + 1) xs))
any_next test xs i x l e =
    ap (list_any test) (drop_more xs i x l) ∙ ap (λ y. test y || list_any test (drop (i + 1) xs)) (sym e)

pub not_false : (b : Bool) → not b ≡ false → b ≡ true
not_false true e = refl
not_false false e = cc

pub not_true : (b : Bool) → not b ≡ true → b ≡ false
not_true true e = cc
not_true false e = refl
