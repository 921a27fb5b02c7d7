-- Products of counts.
use Rattle.std.proofs.Common.{◌≡◌, ℕ, ◌+◌, ◌<◌, suc, List, [], ◌∷◌, map, drop, length, get_or, refl, sym, ◌∙◌, ap, ap₂}
use Rattle.std.proofs.Common.{arith}
use Rattle.std.proofs.lemmas.List.{drop_more, get_or-map, length-map}
use Rattle.larch_sorts_counts.specs.Count.{count_at, product, times}
use Rattle.larch_sorts_counts.specs.declared.count.Count.{Count}
use Rattle.larch_sorts_counts.specs.declared.count.Count.TheVariants.{Never}
use Rattle.larch_sorts_counts.proofs.Counting.{times_never, times_times}

no_product : (all : List (List Count)) (is : List ℕ) → (length all ≡ length is → ⊥) → Never ≡ product all is
no_product [] [] h = absurd (h refl)
no_product [] (i ∷ is) h = refl
no_product (counts ∷ all) [] h = refl
no_product (counts ∷ all) (i ∷ is) h =
    sym (times_never (count_at counts i)) ∙ ap (times (count_at counts i)) (no_product all is (λ e. h (ap suc e)))

module _ {X : Type 0} (f : X → List Count) (xs : List X) (is : List ℕ) where
  -- arguments have as many numbers as they are
  pub product_never : (length xs ≡ length is → ⊥) → Never ≡ product (map f xs) is
  product_never h = no_product (map f xs) is (λ e. h (sym (length-map xs f) ∙ e))

  unrolled : (i : ℕ) (x : X) (n : ℕ) → length xs ≡ length is → i < length is → x ≡ get_or xs i x → n ≡ get_or is i 0
      → product (drop i (map f xs)) (drop i is)
      ≡ times (count_at (f x) n) (product (drop (i + 1) (map f xs)) (drop (i + 1) is))
  unrolled i x n same lt e d =
      let long = length-map xs f in
      let here : f x ≡ get_or (map f xs) i (f x) = ap f e ∙ sym (get_or-map f xs i x (f x) (omega (arith, same, lt))) in
      ap₂ product (drop_more (map f xs) i (f x) (omega (arith, same, lt, long))
      ∙ ap (λ y. y ∷ drop (i + 1) (map f xs)) (sym here))
      (drop_more is i 0 lt ∙ ap (λ y. y ∷ drop (i + 1) is) (sym d))

  -- the product with one number more
  pub product_more : (i : ℕ) (x : X) (n : ℕ) (before count after : Count) → length xs ≡ length is → i < length is
      → x ≡ get_or xs i x → n ≡ get_or is i 0
      → count ≡ count_at (f x) n → after ≡ times before count
      → times before (product (drop i (map f xs)) (drop i is)) ≡ product (map f xs) is
      → times after (product (drop (i + 1) (map f xs)) (drop (i + 1) is)) ≡ product (map f xs) is
  product_more i x n before count after same lt e d here step invariant =
      ap (λ c. times c (product (drop (i + 1) (map f xs)) (drop (i + 1) is))) (step ∙ ap (times before) here)
      ∙ times_times before (count_at (f x) n) (product (drop (i + 1) (map f xs)) (drop (i + 1) is))
      ∙ ap (times before) (sym (unrolled i x n same lt e d)) ∙ invariant
