-- What lists contain.
use Rattle.std.proofs.Common.{◌≡◌, ℕ, zero, suc, ◌⊎◌, inl, inr, Bool, true, false, cond, List, [], ◌∷◌, ◌++◌, map}
use Rattle.std.proofs.Common.{Contains, Some, refl, sym, ap, subst, arith}
use Rattle.std.specs.List.{filter, flat_map, slice_get}

pub contains_here : {X : Type 0} (x : X) (xs : List X) → Contains (x ∷ xs) x
contains_here x xs = (0, omega arith, refl)

pub contains_later : {X : Type 0} (x y : X) (xs : List X) → Contains xs y → Contains (x ∷ xs) y
contains_later x y xs c = let lt = c.1 in (suc c.0, omega arith, c.2)

pub contains_cases : {X : Type 0} (x y : X) (xs : List X) → Contains (x ∷ xs) y → (x ≡ y) ⊎ Contains xs y
contains_cases x y xs (zero, lt, e) = inl e
contains_cases x y xs (suc k, lt, e) = inr (k, omega (arith, lt), e)

pub contains_none : {X : Type 0} (x : X) → Contains [] x → ⊥
contains_none x c = let lt = c.1 in absurd (omega arith)

pub contains_one : {X : Type 0} (x y : X) → Contains (x ∷ []) y → x ≡ y
contains_one x y c = elim (contains_cases x y [] c) [ inl e ↦ e | inr d ↦ absurd (contains_none y d) ]

pub contains_left : {X : Type 0} (xs ys : List X) (x : X) → Contains xs x → Contains (xs ++ ys) x
contains_left [] ys x c = absurd (contains_none x c)
contains_left (z ∷ xs) ys x c =
    elim (contains_cases z x xs c) [
      | inl e ↦ subst (Contains (z ∷ xs ++ ys)) e (contains_here z (xs ++ ys))
      | inr d ↦ contains_later z x (xs ++ ys) (contains_left xs ys x d)
    ]

pub contains_right : {X : Type 0} (xs ys : List X) (x : X) → Contains ys x → Contains (xs ++ ys) x
contains_right [] ys x c = c
contains_right (z ∷ xs) ys x c = contains_later z x (xs ++ ys) (contains_right xs ys x c)

pub contains_either : {X : Type 0} (xs ys : List X) (x : X) → Contains (xs ++ ys) x → Contains xs x ⊎ Contains ys x
contains_either [] ys x c = inr c
contains_either (z ∷ xs) ys x c =
    elim (contains_cases z x (xs ++ ys) c) [
      | inl e ↦ inl (subst (Contains (z ∷ xs)) e (contains_here z xs))
      | inr d ↦ elim (contains_either xs ys x d) [ inl a ↦ inl (contains_later z x xs a) | inr b ↦ inr b ]
    ]

pub contains_map : {X Y : Type 0} (f : X → Y) (xs : List X) (x : X) → Contains xs x → Contains (map f xs) (f x)
contains_map f [] x c = absurd (contains_none x c)
contains_map f (z ∷ xs) x c =
    elim (contains_cases z x xs c) [
      | inl e ↦ subst (Contains (map f (z ∷ xs))) (ap f e) (contains_here (f z) (map f xs))
      | inr d ↦ contains_later (f z) (f x) (map f xs) (contains_map f xs x d)
    ]

pub contained_in_map : {X Y : Type 0} (f : X → Y) (xs : List X) (y : Y) → Contains (map f xs) y
    → (x : X) × Contains xs x × (f x ≡ y)
contained_in_map f [] y c = absurd (contains_none y c)
contained_in_map f (x ∷ xs) y c =
    elim (contains_cases (f x) y (map f xs) c) [
      | inl e ↦ (x, contains_here x xs, e)
      | inr d ↦ let r = contained_in_map f xs y d in (r.0, contains_later x r.0 xs r.1, r.2)
    ]

pub contains_flat_map : {X Y : Type 0} (f : X → List Y) (xs : List X) (x : X) (y : Y) → Contains xs x → Contains (f x) y
    → Contains (flat_map f xs) y
contains_flat_map f [] x y c d = absurd (contains_none x c)
contains_flat_map f (z ∷ xs) x y c d =
    elim (contains_cases z x xs c) [
      | inl e ↦ contains_left (f z) (flat_map f xs) y (subst (λ w. Contains (f w) y) (sym e) d)
      | inr b ↦ contains_right (f z) (flat_map f xs) y (contains_flat_map f xs x y b d)
    ]

pub contained_in_flat_map : {X Y : Type 0} (f : X → List Y) (xs : List X) (y : Y) → Contains (flat_map f xs) y
    → (x : X) × Contains xs x × Contains (f x) y
contained_in_flat_map f [] y c = absurd (contains_none y c)
contained_in_flat_map f (x ∷ xs) y c =
    elim (contains_either (f x) (flat_map f xs) y c) [
      | inl a ↦ (x, contains_here x xs, a)
      | inr b ↦ let r = contained_in_flat_map f xs y b in (r.0, contains_later x r.0 xs r.1, r.2)
    ]

passes : {X : Type 0} (p : X → Bool) (z x : X) (xs : List X) (b : Bool) → p z ≡ b → p x ≡ true
    → (z ≡ x) ⊎ Contains (filter p xs) x → Contains (cond b (z ∷ filter p xs) (filter p xs)) x
passes p z x xs true e h c =
    elim c [
      | inl a ↦ subst (Contains (z ∷ filter p xs)) a (contains_here z (filter p xs))
      | inr b ↦ contains_later z x (filter p xs) b
    ]
passes p z x xs false e h c =
    elim c [ inl a ↦ absurd (let w : p x ≡ false = subst (λ y. p y ≡ false) a e in cc) | inr b ↦ b ]

pub contains_filter : {X : Type 0} (p : X → Bool) (xs : List X) (x : X) → Contains xs x → p x ≡ true
    → Contains (filter p xs) x
contains_filter p [] x c h = absurd (contains_none x c)
contains_filter p (z ∷ xs) x c h =
    passes p z x xs (p z) refl h (elim (contains_cases z x xs c)
    [ inl a ↦ inl a | inr b ↦ inr (contains_filter p xs x b h) ])

passed : {X : Type 0} (p : X → Bool) (z x : X) (xs : List X) (b : Bool) → p z ≡ b
    → Contains (cond b (z ∷ filter p xs) (filter p xs)) x
    → ((z ≡ x) × (p z ≡ true)) ⊎ Contains (filter p xs) x
passed p z x xs true e c = elim (contains_cases z x (filter p xs) c) [ inl a ↦ inl (a, e) | inr b ↦ inr b ]
passed p z x xs false e c = inr c

pub contained_in_filter : {X : Type 0} (p : X → Bool) (xs : List X) (x : X) → Contains (filter p xs) x
    → Contains xs x × (p x ≡ true)
contained_in_filter p [] x c = absurd (contains_none x c)
contained_in_filter p (z ∷ xs) x c =
    elim (passed p z x xs (p z) refl c) [
      | inl a ↦ (subst (Contains (z ∷ xs)) a.0 (contains_here z xs), subst (λ y. p y ≡ true) a.0 a.1)
      | inr b ↦ let r = contained_in_filter p xs x b in (contains_later z x xs r.0, r.1)
    ]

pub got_contains : {X : Type 0} (xs : List X) (i : ℕ) (x : X) → slice_get xs i ≡ Some x → Contains xs x
got_contains [] i x e = cc
got_contains (y ∷ xs) zero x e = let p : y ≡ x = cc in subst (Contains (y ∷ xs)) p (contains_here y xs)
got_contains (y ∷ xs) (suc i) x e = contains_later y x xs (got_contains xs i x e)

pub contains_got : {X : Type 0} (xs : List X) (x : X) → Contains xs x → (i : ℕ) × (slice_get xs i ≡ Some x)
contains_got [] x c = let lt = c.1 in absurd (omega arith)
contains_got (y ∷ xs) x c =
    elim (contains_cases y x xs c) [
      | inl e ↦ (0, ap Some e)
      | inr d ↦ let r = contains_got xs x d in (suc r.0, r.1)
    ]

pub got_in_map : {X Y : Type 0} (f : X → Y) (xs : List X) (i : ℕ) (y : Y) → slice_get (map f xs) i ≡ Some y
    → (x : X) × (slice_get xs i ≡ Some x) × (f x ≡ y)
got_in_map f [] i y e = cc
got_in_map f (x ∷ xs) zero y e = (x, refl, cc)
got_in_map f (x ∷ xs) (suc i) y e = got_in_map f xs i y e
