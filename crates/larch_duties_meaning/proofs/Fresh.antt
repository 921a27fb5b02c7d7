-- Words for copies are free, and no built-in operator has them.
use Rattle.std.specs.Prelude.{◌≡◌, ◌<◌, ◌+◌, ◌&&◌, ◌||◌, not, cond, ℕ, zero, suc, Bool, true, false, List, [], ◌∷◌}
use Rattle.std.specs.Prelude.{◌++◌, fold, length, All, bytes_eq, nat_eq, codes, decimal, Some, find, unwrap_or, refl}
use Rattle.std.specs.List.{list_any}
use Rattle.std.proofs.Common.{arith, ap, ap₂, sym, ◌∙◌, subst}
use Rattle.std.proofs.lemmas.List.{length-append, append_assoc}
use Rattle.std.proofs.lemmas.List.Elements.{All-nil, All-cons, All-head, All-tail}
use Rattle.larch_base.specs.Word.{is_word}
use Rattle.larch_term.specs.BuiltIn.{built_in_name}
use Rattle.larch_term.specs.declared.built_in.BuiltIn.{BuiltIn}
use Rattle.larch_term.specs.declared.built_in.BuiltIn.TheVariants.{True, False, Not, And, Or, Implies, Iff, Equal}
use Rattle.larch_term.specs.declared.built_in.BuiltIn.TheVariants.{Unequal, If}
use Rattle.larch_duties_meaning.specs.Conversions.{all_bytes, free_word, primes_of, word_tried}

and_false : (b : Bool) → (b && false) ≡ false
and_false true = refl
and_false false = refl

-- lists of different lengths differ
differ : (n m : List ℕ) → length m < length n → bytes_eq n m ≡ false
differ [] m h = absurd (omega (arith, h))
differ (x ∷ xs) [] h = refl
differ (x ∷ xs) (y ∷ ys) h = ap (λ b. nat_eq x y && b) (differ xs ys (omega (arith, h))) ∙ and_false (nat_eq x y)

-- a word that is longer than all words together is none of them
long_is_free : (taken : List (List ℕ)) (n : List ℕ) → length (all_bytes taken) < length n
    → list_any (bytes_eq n) taken ≡ false
long_is_free [] n h = refl
long_is_free (m ∷ ms) n h =
    let e : length (m ++ all_bytes ms) ≡ length m + length (all_bytes ms) = length-append m (all_bytes ms) in
    ap₂ (λ a b. a || b) (differ n m (omega (arith, e, h))) (long_is_free ms n (omega (arith, e, h)))

not_true : (b : Bool) → not b ≡ true → b ≡ false
not_true true h = sym h
not_true false h = refl

-- what is found passes the test, and so does what stands in its place
found : {A : Type 0} (test : A → Bool) (d : A) → test d ≡ true → (xs : List A)
    → test (unwrap_or (find test xs) d) ≡ true
found test d h [] = h
found test d h (x ∷ xs) =
    elim (test x) as (λ b. test x ≡ b → test (unwrap_or (cond b (Some x) (find test xs)) d) ≡ true) [
      | true ↦ λ e. e
      | false ↦ λ e. found test d h xs
    ] refl

-- what all have has what is found, and what stands in its place
found_has : {A : Type 0} (P : A → Type 0) (test : A → Bool) (d : A) → P d → (xs : List A) → All P xs
    → P (unwrap_or (find test xs) d)
found_has P test d h [] a = h
found_has P test d h (x ∷ xs) a =
    elim (test x) as (λ b. P (unwrap_or (cond b (Some x) (find test xs)) d)) [
      | true ↦ All-head P x xs a
      | false ↦ found_has P test d h xs (All-tail P x xs a)
    ]

-- the word ends with '
abbrev pub EndsPrimed : List ℕ → Type 0
EndsPrimed w = (v : List ℕ) × (w ≡ v ++ codes "'")

is_not_empty : (w v : List ℕ) → w ≡ v ++ codes "'" → 0 < length w
is_not_empty w v e =
    let n : length (v ++ codes "'") ≡ length v + 1 = length-append v (codes "'") in
    subst (λ u. 0 < length u) (sym e) (omega (arith, n))

pub free_is_free : (taken : List (List ℕ)) (word : List ℕ) → EndsPrimed word
    → list_any (bytes_eq (free_word taken word)) taken ≡ false
free_is_free taken word h =
    let e : length (all_bytes taken ++ word) ≡ length (all_bytes taken) + length word =
    length-append (all_bytes taken) word in
    let n : 0 < length word = is_not_empty word h.0 h.1 in
    not_true (list_any (bytes_eq (free_word taken word)) taken)
    (found (λ n. not (list_any (bytes_eq n) taken)) (all_bytes taken ++ word)
    (ap not (long_is_free taken (all_bytes taken ++ word) (omega (arith, e, n))))
    (primes_of (suc (length taken)) word))

primed_end : (n : ℕ) (word : List ℕ) → EndsPrimed word → All EndsPrimed (primes_of n word)
primed_end zero word h = All-nil EndsPrimed
primed_end (suc n) word h =
    All-cons EndsPrimed word (primes_of n (word ++ codes "'")) h (primed_end n (word ++ codes "'") (word, refl))

pub free_ends_primed : (taken : List (List ℕ)) (word : List ℕ) → EndsPrimed word → EndsPrimed (free_word taken word)
free_ends_primed taken word h =
    found_has EndsPrimed (λ n. not (list_any (bytes_eq n) taken)) (all_bytes taken ++ word)
    (all_bytes taken ++ h.0, ap (λ w. all_bytes taken ++ w) h.1 ∙ sym (append_assoc (all_bytes taken) h.0 (codes "'")))
    (primes_of (suc (length taken)) word) (primed_end (suc (length taken)) word h)

tried_by : (place : ℕ) (name : List ℕ) (b : Bool)
    → EndsPrimed (cond b (name ++ codes "'") (codes "conv" ++ (decimal place ++ codes "'")))
tried_by place name true = (name, refl)
tried_by place name false =
    (codes "conv" ++ decimal place, sym (append_assoc (codes "conv") (decimal place) (codes "'")))

pub tried_ends_primed : (place : ℕ) (name : List ℕ) → EndsPrimed (word_tried place name)
tried_ends_primed place name = tried_by place name (is_word name)

-- the last byte, or one where there is none
abbrev last_of : ℕ → List ℕ → ℕ
last_of z n = fold (λ a b. b) z n

last_primed : (v : List ℕ) (z : ℕ) → last_of z (v ++ codes "'") ≡ 39
last_primed [] z = refl
last_primed (x ∷ v) z = last_primed v x

built_in_last : (b : BuiltIn) → last_of 0 (built_in_name b) ≡ 39 → ⊥
built_in_last True e = absurd (omega (arith, e))
built_in_last False e = absurd (omega (arith, e))
built_in_last Not e = absurd (omega (arith, e))
built_in_last And e = absurd (omega (arith, e))
built_in_last Or e = absurd (omega (arith, e))
built_in_last Implies e = absurd (omega (arith, e))
built_in_last Iff e = absurd (omega (arith, e))
built_in_last Equal e = absurd (omega (arith, e))
built_in_last Unequal e = absurd (omega (arith, e))
built_in_last If e = absurd (omega (arith, e))

-- no built-in operator's name ends so
pub not_built_in : (b : BuiltIn) (w : List ℕ) → EndsPrimed w → w ≡ built_in_name b → ⊥
not_built_in b w h e = built_in_last b (ap (last_of 0) (sym e ∙ h.1) ∙ last_primed h.0 0)
