-- The first of some things that passes a test.
use Rattle.std.proofs.Common.{◌≡◌, refl, ap₂, Bool, true, false, cond, List, [], ◌∷◌, map, Contains, Option, Some, None}
use Rattle.std.specs.Prelude.{find, option_map}
use Rattle.larch_base.proofs.Members.{contains_here, contains_later}

-- by tests that agree it is the same
pub find_by : {A : Type 0} (p q : A → Bool) (xs : List A) → ((x : A) → Contains xs x → p x ≡ q x)
    → find p xs ≡ find q xs
find_by p q [] h = refl
find_by p q (x ∷ xs) h =
    ap₂ (λ b o. cond b (Some x) o) (h x (contains_here x xs)) (find_by p q xs (λ y c. h y (contains_later x y xs c)))

mapped : {A B : Type 0} (f : A → B) (x : A) (b : Bool) (o : Option A) (u : Option B) → u ≡ option_map f o
    → cond b (Some (f x)) u ≡ option_map f (cond b (Some x) o)
mapped f x true o u e = refl
mapped f x false o u e = e

-- what is made of the things is made of it
pub find_in_map : {A B : Type 0} (p : B → Bool) (f : A → B) (xs : List A)
    → find p (map f xs) ≡ option_map f (find (λ x. p (f x)) xs)
find_in_map p f [] = refl
find_in_map p f (x ∷ xs) =
    mapped f x (p (f x)) (find (λ y. p (f y)) xs) (find p (map f xs)) (find_in_map p f xs)

-- what something is made of
pub made_from : {A B : Type 0} (f : A → B) (o : Option A) (y : B) → option_map f o ≡ Some y
    → (x : A) × (o ≡ Some x) × (f x ≡ y)
made_from f None y e = absurd (cc)
made_from f (Some x) y e = (x, refl, cc)
