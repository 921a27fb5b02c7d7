-- What is found for each.
use Rattle.std.proofs.Common.{◌≡◌, ℕ, zero, suc, ◌<◌, List, [], ◌∷◌, ◌++◌, length, take, drop, get_or, Bool, true}
use Rattle.std.proofs.Common.{false, if◌then◌else◌, Option, Some, None, refl, ◌∙◌, ap, arith}
use Rattle.std.specs.Option.{option_map, option_and_then}
use Rattle.std.proofs.lemmas.Option.{option_and_then_some, none-some}
use Rattle.larch_base.proofs.Options.{some_inj}
use Rattle.larch_verify_meaning.specs.Decoding.{each}

-- what is a value under a map was one before
pub option_map_some : {A B P : Type 0} (f : A → B) (o : Option A) (y : B) → option_map f o ≡ Some y
    → ((x : A) → o ≡ Some x → f x ≡ y → P) → P
option_map_some f None y e k = absurd (none-some y e)
option_map_some f (Some x) y e k = k x refl (some_inj e)

pub then_some : {A : Type 0} (b : Bool) (o : Option A) (y : A) → (if b then o else None) ≡ Some y → o ≡ Some y
then_some true o y e = e
then_some false o y e = absurd (none-some y e)

pub each_push : {X Y : Type 0} (find : X → Option Y) (xs : List X) (x : X) (ys : List Y) (y : Y)
    → each find xs ≡ Some ys → find x ≡ Some y
    → each find (xs ++ x ∷ []) ≡ Some (ys ++ y ∷ [])
each_push find [] x ys y e f = ap (option_and_then (λ z. Some (z ∷ []))) f ∙ ap (λ zs. Some (zs ++ y ∷ [])) (some_inj e)
each_push find (w ∷ ws) x ys y e f =
    option_and_then_some (λ z. option_map (λ zs. z ∷ zs) (each find ws)) (find w) ys e
    (λ z p q. option_map_some (λ zs. z ∷ zs) (each find ws) ys q
    (λ zs r v. ap (option_and_then (λ u. option_map (λ us. u ∷ us) (each find (ws ++ x ∷ [])))) p
    ∙ ap (option_map (λ us. z ∷ us)) (each_push find ws x zs y r f) ∙ ap (λ us. Some (us ++ y ∷ [])) v))

none_behind : {X Y : Type 0} (o : Option X) → option_and_then {U = Y} (λ x. None) o ≡ None
none_behind None = refl
none_behind (Some x) = refl

pub each_stop : {X Y : Type 0} (find : X → Option Y) (xs : List X) (x : X) (rest : List X) → find x ≡ None
    → each find (xs ++ x ∷ rest) ≡ None
each_stop find [] x rest f = ap (option_and_then (λ y. option_map (λ ys. y ∷ ys) (each find rest))) f
each_stop {X} {Y} find (w ∷ ws) x rest f =
    ap (λ o. option_and_then (λ z. option_map (λ zs. z ∷ zs) o) (find w)) (each_stop find ws x rest f)
    ∙ none_behind {X = Y} {Y = List Y} (find w)

pub parted : {X : Type 0} (xs : List X) (i : ℕ) (d : X) → i < length xs
    → take i xs ++ get_or xs i d ∷ drop (suc i) xs ≡ xs
parted [] i d l = absurd (omega arith)
parted (x ∷ xs) zero d l = refl
parted (x ∷ xs) (suc i) d l = ap (λ ys. x ∷ ys) (parted xs i d (omega arith))
