-- What is left of a list, item by item.
use Rattle.std.proofs.Common.{◌≡◌, ◌≤◌, ◌<◌, ◌+◌, ℕ, suc, Bool, true, false, List, ◌∷◌, drop, drop-cons, get_or}
use Rattle.std.proofs.Common.{length, take, sym, ◌∙◌, ap, arith}
use Rattle.std.specs.Prelude.{map, IfErr, IfOk, Result, Ok, Err}
use Rattle.std.specs.List.{list_all}
use Rattle.std.proofs.lemmas.List.{take_all}
use Rattle.std.proofs.lemmas.List.Folds.{list_all-map, list_all_at}

one_more : (i : ℕ) → i + 1 ≡ suc i
one_more i = omega arith

pub drop_next : {X : Type 0} (xs : List X) (i : ℕ) (x : X) → i < length xs → x ≡ get_or xs i x
    → drop i xs ≡ x ∷ drop (i + 1) xs
drop_next xs i x l e =
    drop-cons xs i x l ∙ ap (λ j. get_or xs i x ∷ drop j xs) (sym (one_more i))
    ∙ ap (λ y. y ∷ drop (i + 1) xs) (sym e)

pub drop_item : {X : Type 0} (xs : List X) (i : ℕ) (d : X) → i < length xs
    → drop i xs ≡ get_or xs i d ∷ drop (i + 1) xs
drop_item xs i d l = drop-cons xs i d l ∙ ap (λ j. get_or xs i d ∷ drop j xs) (sym (one_more i))

-- ---- what is so of all items

pub all_fails : {X Y : Type 0} (p : Y → Bool) (h : X → Y) (xs : List X) (i : ℕ) (x : X) → i < length xs
    → x ≡ get_or xs i x → p (h x) ≡ false → list_all p (map h xs) ≡ false
all_fails p h xs i x l e f =
    list_all-map p h xs ∙ list_all_at (λ y. p (h y)) xs i x l (ap (λ y. p (h y)) (sym e) ∙ f)

pub all_pass : {X Y : Type 0} (p : Y → Bool) (h : X → Y) (xs : List X) (i : ℕ) → length xs ≤ i
    → list_all (λ x. p (h x)) (take i xs) ≡ true → list_all p (map h xs) ≡ true
all_pass p h xs i l e =
    list_all-map p h xs ∙ ap (list_all (λ x. p (h x))) (sym (take_all i xs l)) ∙ e

-- ---- answers

-- what follows of each answer follows where there is one
pub if_ok : {A E : Type 0} (P Q : A → Type 0) (r : Result A E) → ((a : A) → P a → Q a) → IfOk r P → IfOk r Q
if_ok P Q (Ok a) f h = f a h
if_ok P Q (Err e) f h = tt

pub if_err : {A E : Type 0} (P Q : E → Type 0) (r : Result A E) → ((e : E) → P e → Q e) → IfErr r P → IfErr r Q
if_err P Q (Ok a) f h = tt
if_err P Q (Err e) f h = f e h
