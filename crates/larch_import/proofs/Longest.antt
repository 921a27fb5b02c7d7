-- The longest so far.
use Rattle.std.proofs.Common.{◌≡◌, ℕ, ◌+◌, ◌<◌, List, [], ◌∷◌, ◌++◌, length, take, get_or, refl, sym, ◌∙◌, ap}
use Rattle.std.specs.Prelude.{fold}
use Rattle.std.proofs.lemmas.List.{take_more}
use Rattle.larch_term.specs.Tree.{Tree, forest_of}
use Rattle.larch_import_meaning.specs.Lengths.{with_term, with_terms}

-- arguments as a list
pub terms_folded : (n : ℕ) (ts : List Tree) → with_terms n (forest_of ts) ≡ fold with_term n ts
terms_folded n [] = refl
terms_folded n (t ∷ ts) = terms_folded (with_term n t) ts

fold_behind : {A X : Type 0} (f : A → X → A) (a : A) (xs : List X) (x : X)
    → fold f a (xs ++ x ∷ []) ≡ f (fold f a xs) x
fold_behind f a [] x = refl
fold_behind f a (y ∷ ys) x = fold_behind f (f a y) ys x

-- one thing more
pub one_more : {A X : Type 0} (f : A → X → A) (a : A) (xs : List X) (i : ℕ) (x : X) (m : A) → i < length xs
    → x ≡ get_or xs i x → m ≡ fold f a (take i xs) → f m x ≡ fold f a (take (i + 1) xs)
one_more f a xs i x m lt is e =
    ap (λ k. f k x) e ∙ sym (fold_behind f a (take i xs) x)
    ∙ ap (λ y. fold f a (take i xs ++ y ∷ [])) is ∙ ap (fold f a) (sym (take_more xs i x lt))
