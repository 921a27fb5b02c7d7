-- Lists that grow by the image of one thing.
use Rattle.std.proofs.Common.{◌≡◌, ℕ, ◌+◌, ◌<◌, List, [], ◌∷◌, ◌++◌, map, length, take, get_or, sym, ◌∙◌, ap}
use Rattle.std.proofs.lemmas.List.{map_more}

-- the images of the first so many things; now of one more
pub one_more : {X Y : Type 0} (f : X → Y) (held : List Y) (xs : List X) (i : ℕ) (x : X) (y : Y) → i < length xs
    → x ≡ get_or xs i x → y ≡ f x → held ≡ map f (take i xs) → held ++ y ∷ [] ≡ map f (take (i + 1) xs)
one_more f held xs i x y lt is made e =
    ap (λ ys. ys ++ y ∷ []) e ∙ ap (λ z. map f (take i xs) ++ z ∷ []) (made ∙ ap f is) ∙ sym (map_more f xs i x lt)
