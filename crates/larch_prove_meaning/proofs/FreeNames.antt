-- New names are free.
use Rattle.std.specs.Prelude.{◌≡◌, ◌<◌, ◌+◌, ◌&&◌, ◌||◌, not, cond, ℕ, Bool, true, false, List, [], ◌∷◌, ◌++◌, length}
use Rattle.std.specs.Prelude.{bytes_eq, nat_eq, Some, find, unwrap_or, refl}
use Rattle.std.specs.List.{list_any}
use Rattle.std.proofs.Common.{arith, ap, ap₂, sym, ◌∙◌}
use Rattle.std.proofs.lemmas.List.{length-append}
use Rattle.larch_prove_meaning.specs.NewNames.{all_bytes, free_name, numbered_from}

and_false : (b : Bool) → (b && false) ≡ false
and_false true = refl
and_false false = refl

-- lists of different lengths differ
differ : (n m : List ℕ) → length m < length n → bytes_eq n m ≡ false
differ [] m h = absurd (omega (arith, h))
differ (x ∷ xs) [] h = refl
differ (x ∷ xs) (y ∷ ys) h = ap (λ b. nat_eq x y && b) (differ xs ys (omega (arith, h))) ∙ and_false (nat_eq x y)

-- a name that is longer than all names together is none of them
long_is_free : (taken : List (List ℕ)) (n : List ℕ) → length (all_bytes taken) < length n
    → list_any (bytes_eq n) taken ≡ false
long_is_free [] n h = refl
long_is_free (m ∷ ms) n h =
    let e : length (m ++ all_bytes ms) ≡ length m + length (all_bytes ms) = length-append m (all_bytes ms) in
    ap₂ (λ a b. a || b) (differ n m (omega (arith, e, h))) (long_is_free ms n (omega (arith, e, h)))

not_true : (b : Bool) → not b ≡ true → b ≡ false
not_true true h = sym h
not_true false h = refl

-- what is found passes the test, and so does what stands in its place
found : {A : Type 0} (test : A → Bool) (d : A) → test d ≡ true → (xs : List A)
    → test (unwrap_or (find test xs) d) ≡ true
found test d h [] = h
found test d h (x ∷ xs) =
    elim (test x) as (λ b. test x ≡ b → test (unwrap_or (cond b (Some x) (find test xs)) d) ≡ true) [
      | true ↦ λ e. e
      | false ↦ λ e. found test d h xs
    ] refl

pub free_is_free : (taken : List (List ℕ)) (word : List ℕ) → 0 < length word
    → list_any (bytes_eq (free_name taken word)) taken ≡ false
free_is_free taken word h =
    let e : length (word ++ all_bytes taken) ≡ length word + length (all_bytes taken) =
    length-append word (all_bytes taken) in
    not_true _ (found (λ n. not (list_any (bytes_eq n) taken)) (word ++ all_bytes taken)
    (ap not (long_is_free taken (word ++ all_bytes taken) (omega (arith, e, h))))
    (word ∷ numbered_from word 1 (length taken)))
