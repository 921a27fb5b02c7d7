-- What has a number among others that isn't 0 is there.
use Rattle.std.proofs.Common.{◌≡◌, ℕ, suc, ◌==◌, ◌+◌, Bool, true, not, cond, inl, inr, List, [], ◌∷◌, map}
use Rattle.std.proofs.Common.{All, Contains, Option, Some, None, refl, sym, ◌∙◌, ap, arith}
use Rattle.std.specs.Prelude.{position}
use Rattle.std.specs.List.{list_all, slice_get, position_from}
use Rattle.std.specs.Option.{option_map_or}
use Rattle.std.proofs.lemmas.Iterator.Adapters.{position_from-zero}
use Rattle.std.proofs.lemmas.Bool.{ne_eqb}
use Rattle.larch_base.proofs.Bools.{true_or_false, and_left, and_right, and_both}
use Rattle.larch_base.proofs.Lists.{all_from}
use Rattle.larch_base.proofs.Members.{contains_cases, contains_none, contains_map, contained_in_map, contains_here}
use Rattle.larch_base.proofs.Members.{contains_later}
use Rattle.larch_base.proofs.Options.{some_inj}
use Rattle.larch_base.specs.ByNumber.{numbered}
use Rattle.larch_import_meaning.proofs.Moving.{at_suc}

passes_at : {X : Type 0} (t : X → Bool) (xs : List X) → list_all t xs ≡ true → (x : X) → Contains xs x → t x ≡ true
passes_at t [] e x c = absurd (contains_none x c)
passes_at t (y ∷ ys) e x c =
    elim (contains_cases y x ys c) [
      | inl p ↦ ap t (sym p) ∙ and_left (t y) (list_all t ys) e
      | inr d ↦ passes_at t ys (and_right (t y) (list_all t ys) e) x d
    ]

pub each_passes : {X : Type 0} (t : X → Bool) (P : X → Type 0) → ((x : X) → t x ≡ true → P x) → (xs : List X)
    → list_all t xs ≡ true → All P xs
each_passes t P f xs e = all_from P xs (λ x c. f x (passes_at t xs e x c))

-- so it is of the images of things
pub image_passes : {X Y : Type 0} (t : Y → Bool) (g : X → Y) (xs : List X) → list_all t (map g xs) ≡ true → (x : X)
    → Contains xs x → t (g x) ≡ true
image_passes t g xs e x c = passes_at t (map g xs) e (g x) (contains_map g xs x c)

-- what stands at a position that is found passes
record Passes {X : Type 0} (t : X → Bool) (i k : ℕ) (xs : List X) : Type 0 where
  place : ℕ
  is : k ≡ i + place
  item : X
  at : slice_get xs place ≡ Some item
  passed : t item ≡ true

found_from : {X : Type 0} (t : X → Bool) (i k : ℕ) (xs : List X) → position_from t i xs ≡ Some k → Passes t i k xs
found_from t i k [] e = cc
found_from t i k (x ∷ xs) e =
    elim (true_or_false (t x)) [
      | inl y ↦
          let same : i ≡ k = some_inj (sym (ap (λ b. cond b (Some i) (position_from t (i + 1) xs)) y) ∙ e) in
          record { place = 0; is = omega (arith, same); item = x; at = refl; passed = y }
      | inr n ↦
          let r = found_from t (i + 1) k xs (sym (ap (λ b. cond b (Some i) (position_from t (i + 1) xs)) n) ∙ e) in
          let same = r.is in
          record { place = suc r.place; is = omega (arith, same); item = r.item; at = r.at; passed = r.passed }
    ]

-- the number of a thing among others, counted from 1; nothing has the number 0
abbrev pub number_by : {X : Type 0} → (X → X → Bool) → List X → X → ℕ
number_by same xs x = option_map_or suc (position (λ z. same z x) xs) 0

module _ {X : Type 0} (same : X → X → Bool) (told : (x y : X) → same x y ≡ true → x ≡ y) (xs : List X) (x : X) where
  by_position : (o : Option ℕ) → position (λ z. same z x) xs ≡ o → not (option_map_or suc o 0 == 0) ≡ true
      → numbered xs (option_map_or suc o 0) ≡ Some x
  by_position None f e = cc
  by_position (Some i) f e =
      let r = found_from (λ z. same z x) 0 i xs (sym (position_from-zero (λ z. same z x) xs) ∙ f) in
      let is = r.is in
      let here : i ≡ r.place = omega (arith, is) in
      at_suc xs i ∙ ap (slice_get xs) here ∙ r.at ∙ ap Some (told r.item x r.passed)

  pub numbered_by : not (number_by same xs x == 0) ≡ true → numbered xs (number_by same xs x) ≡ Some x
  numbered_by e = by_position (position (λ z. same z x) xs) refl e

-- ---- what is there is found

pub passes_all : {X : Type 0} (t : X → Bool) (xs : List X) → ((x : X) → Contains xs x → t x ≡ true)
    → list_all t xs ≡ true
passes_all t [] f = refl
passes_all t (x ∷ xs) f =
    and_both (t x) (list_all t xs) (f x (contains_here x xs)) (passes_all t xs (λ y c. f y (contains_later x y xs c)))

pub images_pass : {X Y : Type 0} (t : Y → Bool) (g : X → Y) (xs : List X)
    → ((x : X) → Contains xs x → t (g x) ≡ true) → list_all t (map g xs) ≡ true
images_pass t g xs f =
    passes_all t (map g xs) (λ y c.
    let p = contained_in_map g xs y c in
    ap t (sym p.2) ∙ f p.0 p.1)

found_there : {X : Type 0} (t : X → Bool) (i : ℕ) (xs : List X) (x : X) → Contains xs x → t x ≡ true
    → (k : ℕ) × (position_from t i xs ≡ Some k)
found_there t i [] x c e = absurd (contains_none x c)
found_there t i (y ∷ ys) x c e =
    elim (true_or_false (t y)) [
      | inl w ↦ (i, ap (λ b. cond b (Some i) (position_from t (i + 1) ys)) w)
      | inr n ↦ elim (contains_cases y x ys c) [
        | inl p ↦ absurd (let w = ap t p ∙ e in let v = sym w ∙ n in cc)
        | inr d ↦
            let r = found_there t (i + 1) ys x d e in
            (r.0, ap (λ b. cond b (Some i) (position_from t (i + 1) ys)) n ∙ r.1)
      ]
    ]

not_nought : (k : ℕ) → not (suc k == 0) ≡ true
not_nought k = ap not (ne_eqb (suc k) 0 (λ p. omega (arith, p)))

-- a thing that is there has a number that isn't 0
pub found_by : {X : Type 0} (same : X → X → Bool) → ((x : X) → same x x ≡ true) → (xs : List X) (x : X)
    → Contains xs x → not (number_by same xs x == 0) ≡ true
found_by same self xs x c =
    let r = found_there (λ z. same z x) 0 xs x c (self x) in
    ap (λ o. not (option_map_or suc o 0 == 0)) (position_from-zero (λ z. same z x) xs ∙ r.1) ∙ not_nought r.0
