-- Lists: what stands under a map, and tests of each element.
use Rattle.std.proofs.Common.{◌≡◌, ℕ, zero, suc, ◌<◌, List, [], ◌∷◌, map, length, get_or, All, Contains, refl, sym, ap}
use Rattle.std.proofs.Common.{subst, arith}
use Rattle.std.specs.List.{AllPairs}
use Rattle.std.proofs.lemmas.List.{get_or-map, length-map}
use Rattle.larch_base.proofs.Members.{contains_here, contains_later}

pub map_map : {X Y Z : Type 0} (g : Y → Z) (f : X → Y) (xs : List X) → map g (map f xs) ≡ map (λ x. g (f x)) xs
map_map g f [] = refl
map_map g f (x ∷ xs) = ap (λ ys. g (f x) ∷ ys) (map_map g f xs)

pub map_by : {X Y : Type 0} (f g : X → Y) (xs : List X) → ((x : X) → Contains xs x → f x ≡ g x) → map f xs ≡ map g xs
map_by f g [] h = refl
map_by f g (x ∷ xs) h =
    λ i. h x (0, omega arith, refl) i ∷ map_by f g xs (λ y c. let lt = c.1 in h y (suc c.0, omega arith, c.2)) i

pub all_from : {X : Type 0} (P : X → Type 0) (xs : List X) → ((x : X) → Contains xs x → P x) → All P xs
all_from P xs h k d lt = h (get_or xs k d) (k, lt, default_of xs k (get_or xs k d) d lt)
  where
    default_of : {X : Type 0} (xs : List X) (k : ℕ) (d e : X) → k < length xs → get_or xs k d ≡ get_or xs k e
    default_of [] k d e lt = absurd (omega arith)
    default_of (x ∷ xs) zero d e lt = refl
    default_of (x ∷ xs) (suc k) d e lt = default_of xs k d e (omega arith)

pub pairs_head : {X : Type 0} (R : X → X → Type 0) (x : X) (xs : List X) → AllPairs R (x ∷ xs) → All (R x) xs
pairs_head R x xs h k d lt = h 0 (suc k) d (omega arith) (omega arith)

pub pairs_tail : {X : Type 0} (R : X → X → Type 0) (x : X) (xs : List X) → AllPairs R (x ∷ xs) → AllPairs R xs
pairs_tail R x xs h i j d lt within = h (suc i) (suc j) d (omega arith) (omega arith)

pub pairs_map : {X Y : Type 0} (R : Y → Y → Type 0) (S : X → X → Type 0) (f : X → Y) (xs : List X)
    → ((x y : X) → Contains xs x → Contains xs y → S x y → R (f x) (f y)) → AllPairs S xs → AllPairs R (map f xs)
pairs_map R S f [] h p i j d lt within = absurd (omega arith)
pairs_map R S f (x ∷ xs) h p i j d lt within =
    let long = length-map xs f in
    let near : i < length (x ∷ xs) = omega arith in
    let far : j < length (x ∷ xs) = omega arith in
    let a = get_or-map f (x ∷ xs) i x d near in
    let b = get_or-map f (x ∷ xs) j x d far in
    subst (λ u. R u (get_or (map f (x ∷ xs)) j d)) (sym a)
    (subst (R (f (get_or (x ∷ xs) i x))) (sym b)
    (h (get_or (x ∷ xs) i x) (get_or (x ∷ xs) j x) (element (x ∷ xs) i x near) (element (x ∷ xs) j x far)
    (p i j x lt far)))
  where
    element : {X : Type 0} (xs : List X) (k : ℕ) (d : X) → k < length xs → Contains xs (get_or xs k d)
    element [] k d lt = absurd (omega arith)
    element (x ∷ xs) zero d lt = contains_here x xs
    element (x ∷ xs) (suc k) d lt = contains_later x (get_or xs k d) xs (element xs k d (omega arith))
