-- Keys that differ, in parts of a list.
use Rattle.std.proofs.Common.{◌≡◌, ◌||◌, Bool, true, false, List, [], ◌∷◌, ◌++◌, refl, sym, ◌∙◌, ap}
use Rattle.std.specs.Cmp.{IsEquivalence}
use Rattle.std.specs.List.{AllByRecursion, IsDistinct, list_any}
use Rattle.std.proofs.lemmas.List.Folds.{list_any-append}
use Rattle.std.proofs.lemmas.Map.Keys.{IsDistinct-cons, IsDistinct-head, IsDistinct-tail}

all_left : {K : Type 0} (P : K → Type 0) (xs ys : List K) → AllByRecursion P (xs ++ ys) → AllByRecursion P xs
all_left P [] ys h = tt
all_left P (x ∷ xs) ys h = (h.0, all_left P xs ys h.1)

at_middle : {K : Type 0} (P : K → Type 0) (xs : List K) (k : K) (ys : List K) → AllByRecursion P (xs ++ k ∷ ys) → P k
at_middle P [] k ys h = h.0
at_middle P (x ∷ xs) k ys h = at_middle P xs k ys h.1

pub distinct_left : {K : Type 0} (e : K → K → Bool) (xs ys : List K) → IsDistinct e (xs ++ ys) → IsDistinct e xs
unfolding IsDistinct
distinct_left e [] ys h = tt
distinct_left e (x ∷ xs) ys h =
    IsDistinct-cons e x xs (all_left (λ y. e x y ≡ false) xs ys (IsDistinct-head e x (xs ++ ys) h))
    (distinct_left e xs ys (IsDistinct-tail e x (xs ++ ys) h))

pub distinct_right : {K : Type 0} (e : K → K → Bool) (xs ys : List K) → IsDistinct e (xs ++ ys) → IsDistinct e ys
distinct_right e [] ys h = h
distinct_right e (x ∷ xs) ys h = distinct_right e xs ys (IsDistinct-tail e x (xs ++ ys) h)

either_false : (a b : Bool) → a ≡ false → b ≡ false → (a || b) ≡ false
either_false true b p q = p
either_false false b p q = q

left_false : (a b : Bool) → (a || b) ≡ false → a ≡ false
left_false true b h = h
left_false false b h = refl

right_false : (a b : Bool) → (a || b) ≡ false → b ≡ false
right_false true b h = absurd cc
right_false false b h = h

-- a key that comes later is none of those before it
pub distinct_absent : {K : Type 0} (e : K → K → Bool) → IsEquivalence e → (xs : List K) (k : K) (ys : List K)
    → IsDistinct e (xs ++ k ∷ ys) → list_any (e k) xs ≡ false
distinct_absent e laws [] k ys h = refl
distinct_absent e laws (x ∷ xs) k ys h =
    either_false (e k x) (list_any (e k) xs)
    (laws.symm k x ∙ at_middle (λ y. e x y ≡ false) xs k ys (IsDistinct-head e x (xs ++ k ∷ ys) h))
    (distinct_absent e laws xs k ys (IsDistinct-tail e x (xs ++ k ∷ ys) h))

-- a key that is none of several is none of the first, nor of the last
pub absent_left : {K : Type 0} (p : K → Bool) (xs ys : List K) → list_any p (xs ++ ys) ≡ false → list_any p xs ≡ false
absent_left p xs ys h = left_false (list_any p xs) (list_any p ys) (sym (list_any-append p xs ys) ∙ h)

pub absent_right : {K : Type 0} (p : K → Bool) (xs ys : List K) → list_any p (xs ++ ys) ≡ false
    → list_any p ys ≡ false
absent_right p xs ys h = right_false (list_any p xs) (list_any p ys) (sym (list_any-append p xs ys) ∙ h)

pub absent_both : {K : Type 0} (p : K → Bool) (xs ys : List K) → list_any p xs ≡ false → list_any p ys ≡ false
    → list_any p (xs ++ ys) ≡ false
absent_both p xs ys h g = list_any-append p xs ys ∙ either_false (list_any p xs) (list_any p ys) h g
