-- What holds of each element of a list, by clauses.
use Rattle.std.proofs.Common.{◌≡◌, refl, suc, arith, ap, ◌∙◌, Bool, true, false, List, [], ◌∷◌, ◌++◌, Contains, filter}
use Rattle.std.proofs.Common.{cond}
use Rattle.std.specs.List.{flat_map}

-- each element has this property
abbrev pub Every : {A : Type 0} → (A → Type 0) → List A → Type 0
Every P [] = Unit {0}
Every P (x ∷ xs) = P x × Every P xs

pub every_contained : {A : Type 0} (P : A → Type 0) (xs : List A) → ((x : A) → Contains xs x → P x) → Every P xs
every_contained P [] h = tt
every_contained P (x ∷ xs) h =
    (h x (0, omega arith, refl), every_contained P xs (λ y c. let lt = c.1 in h y (suc c.0, omega arith, c.2)))

pub every_append : {A : Type 0} (P : A → Type 0) (xs ys : List A) → Every P xs → Every P ys → Every P (xs ++ ys)
every_append P [] ys h k = k
every_append P (x ∷ xs) ys h k = (h.0, every_append P xs ys h.1 k)

pub every_flat_map : {A B : Type 0} (P : A → Type 0) (Q : B → Type 0) (f : A → List B) → ((x : A) → P x → Every Q (f x))
    → (xs : List A) → Every P xs → Every Q (flat_map f xs)
every_flat_map P Q f h [] k = tt
every_flat_map P Q f h (x ∷ xs) k = every_append Q (f x) (flat_map f xs) (h x k.0) (every_flat_map P Q f h xs k.1)

pub every_weaker : {A : Type 0} (P Q : A → Type 0) → ((x : A) → P x → Q x) → (xs : List A) → Every P xs → Every Q xs
every_weaker P Q h [] k = tt
every_weaker P Q h (x ∷ xs) k = (h x k.0, every_weaker P Q h xs k.1)

kept_if : {A : Type 0} (P : A → Type 0) (b : Bool) (x : A) (xs : List A) → P x → Every P xs
    → Every P (cond b (x ∷ xs) xs)
kept_if P true x xs h k = (h, k)
kept_if P false x xs h k = k

pub every_filter : {A : Type 0} (P : A → Type 0) (p : A → Bool) (xs : List A) → Every P xs → Every P (filter p xs)
every_filter P p [] h = tt
every_filter P p (x ∷ xs) h = kept_if P (p x) x (filter p xs) h.0 (every_filter P p xs h.1)

pub flat_map_same : {A B : Type 0} (f g : A → List B) (xs : List A) → Every (λ x. f x ≡ g x) xs
    → flat_map f xs ≡ flat_map g xs
flat_map_same f g [] h = refl
flat_map_same f g (x ∷ xs) h = ap (λ ys. ys ++ flat_map f xs) h.0 ∙ ap (λ ys. g x ++ ys) (flat_map_same f g xs h.1)

pub filter_same : {A : Type 0} (p q : A → Bool) (xs : List A) → Every (λ x. p x ≡ q x) xs → filter p xs ≡ filter q xs
filter_same p q [] h = refl
filter_same p q (x ∷ xs) h =
    ap (λ b. cond b (x ∷ filter p xs) (filter p xs)) h.0 ∙ ap (λ ys. cond (q x) (x ∷ ys) ys) (filter_same p q xs h.1)

pub every_both : {A : Type 0} (P Q R : A → Type 0) → ((x : A) → P x → Q x → R x) → (xs : List A) → Every P xs
    → Every Q xs → Every R xs
every_both P Q R h [] k l = tt
every_both P Q R h (x ∷ xs) k l = (h x k.0 l.0, every_both P Q R h xs k.1 l.1)
