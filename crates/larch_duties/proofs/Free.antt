-- A free word is found: words differ by their lengths, so that no more are taken than there are names.
use Rattle.std.proofs.Common.{◌≡◌, refl, sym, ap, ◌∙◌, subst, ℕ, zero, suc, ◌+◌, ◌<◌, ◌≤◌, Bool, true, false, cond}
use Rattle.std.proofs.Common.{◌||◌, length, List, ◌++◌, Contains, Some, arith, inl, inr}
use Rattle.std.specs.Prelude.{bytes_eq, codes, find, not, unwrap_or}
use Rattle.std.specs.List.{list_any}
use Rattle.std.proofs.lemmas.List.{length-append}
use Rattle.std.proofs.lemmas.Slice.Eq.{bytes_eq-Decides}
use Rattle.larch_base.proofs.Members.{contains_cases, contains_none}
use Rattle.larch_flat_meaning.proofs.Closures.{Names, Within, found}
use Rattle.larch_flat_meaning.proofs.Counting.{Distinct, pigeon}
use Rattle.larch_duties_meaning.specs.Conversions.{all_bytes, free_word, primes_of}
use Rattle.larch_duties.specs.Names.{FindsNames}

-- a word with so many ' behind it
abbrev pub behind : ℕ → List ℕ → List ℕ
behind zero word = word
behind (suc k) word = behind k (word ++ codes "'")

-- so many words, the word, the word with ', .., are taken
abbrev pub AreTaken : Names → ℕ → List ℕ → Type 0
AreTaken names zero word = Unit {0}
AreTaken names (suc k) word = (list_any (bytes_eq word) names ≡ true) × AreTaken names k (word ++ codes "'")

-- what was tried is taken, and this word is the next
abbrev pub IsTried : Names → List ℕ → List ℕ → Type 0
IsTried names first word = (k : ℕ) × (word ≡ behind k first) × AreTaken names k first

behind_more : (k : ℕ) (word : List ℕ) → behind (suc k) word ≡ behind k word ++ codes "'"
behind_more zero word = refl
behind_more (suc k) word = behind_more k (word ++ codes "'")

taken_more : (names : Names) (k : ℕ) (word : List ℕ) → AreTaken names k word
    → list_any (bytes_eq (behind k word)) names ≡ true → AreTaken names (suc k) word
taken_more names zero word a t = (t, tt)
taken_more names (suc k) word a t = (a.0, taken_more names k (word ++ codes "'") a.1 t)

-- nothing is tried yet
pub none_tried : (names : Names) (first : List ℕ) → IsTried names first first
none_tried names first = (0, refl, tt)

-- one more is tried
pub one_tried : (names : Names) (first word longer : List ℕ) → IsTried names first word
    → list_any (bytes_eq word) names ≡ true → longer ≡ word ++ codes "'"
    → IsTried names first longer
one_tried names first word longer (k, e, a) t l = (
  suc k,
  l ∙ ap (λ w. w ++ codes "'") e ∙ sym (behind_more k first),
  taken_more names k first a (subst (λ w. list_any (bytes_eq w) names ≡ true) e t),
)

longer_by : (word : List ℕ) → length (word ++ codes "'") ≡ length word + 1
longer_by word = length-append word (codes "'")

behind_long : (k : ℕ) (word : List ℕ) → length (behind k word) ≡ k + length word
behind_long zero word = omega arith
behind_long (suc k) word = let e = behind_long k (word ++ codes "'") in let l = longer_by word in omega (arith, e, l)

primed_long : (k : ℕ) (word : List ℕ) → length (primes_of k word) ≡ k
primed_long zero word = refl
primed_long (suc k) word = ap suc (primed_long k (word ++ codes "'"))

or_false : (a b : Bool) → a ≡ false → b ≡ false → (a || b) ≡ false
or_false true b e f = e
or_false false b e f = f

differs : (w v : List ℕ) (b : Bool) → bytes_eq w v ≡ b → length w < length v → b ≡ false
differs w v true e l = let s : w ≡ v = (bytes_eq-Decides w v).0 e in let n : length w ≡ length v = ap length s in
    absurd (omega (arith, n, l))
differs w v false e l = refl

-- none of longer words is this one
none_shorter : (k : ℕ) (w v : List ℕ) → length w < length v → list_any (bytes_eq w) (primes_of k v) ≡ false
none_shorter zero w v l = refl
none_shorter (suc k) w v l =
    let e = longer_by v in
    or_false (bytes_eq w v) (list_any (bytes_eq w) (primes_of k (v ++ codes "'"))) (differs w v (bytes_eq w v) refl l)
    (none_shorter k w (v ++ codes "'") (omega (arith, e, l)))

distinct_words : (k : ℕ) (word : List ℕ) → Distinct (primes_of k word)
distinct_words zero word = tt
distinct_words (suc k) word =
    let e = longer_by word in
    (none_shorter k word (word ++ codes "'") (omega (arith, e)), distinct_words k (word ++ codes "'"))

within_taken : (names : Names) (k : ℕ) (word : List ℕ) → AreTaken names k word → Within (primes_of k word) names
within_taken names zero word a x c = absurd (contains_none x c)
within_taken names (suc k) word a x c =
    elim (contains_cases word x (primes_of k (word ++ codes "'")) c) [
      | inl e ↦ subst (Contains names) e (found word names a.0)
      | inr d ↦ within_taken names k (word ++ codes "'") a.1 x d
    ]

-- no more are taken than there are names
taken_few : (names : Names) (k : ℕ) (word : List ℕ) → AreTaken names k word → k ≤ length names
taken_few names k word a =
    subst (λ n. n ≤ length names) (primed_long k word)
    (pigeon (primes_of k word) names (distinct_words k word) (within_taken names k word a))

-- so a word that is taken isn't too long
pub tried_few : (names : Names) (first word : List ℕ) → IsTried names first word → list_any (bytes_eq word) names ≡ true
    → length word < length names + length first
tried_few names first word (k, e, a) t =
    let more = taken_few names (suc k) first
    (taken_more names k first a (subst (λ w. list_any (bytes_eq w) names ≡ true) e t)) in
    let l : length word ≡ k + length first = ap length e ∙ behind_long k first in
    omega (arith, more, l)

taken_too : (index names : Names) (k : ℕ) (word : List ℕ) → FindsNames index names → AreTaken index k word
    → AreTaken names k word
taken_too index names zero word h a = tt
taken_too index names (suc k) word h a = (sym (h word) ∙ a.0, taken_too index names k (word ++ codes "'") h a.1)

-- the first that isn't taken is found among more words
found_at : (names : Names) (k m : ℕ) (word : List ℕ) → k ≤ m → AreTaken names k word
    → list_any (bytes_eq (behind k word)) names ≡ false
    → find (λ n. not (list_any (bytes_eq n) names)) (primes_of (suc m) word) ≡ Some (behind k word)
found_at names zero m word l a f =
    ap (λ b. cond (not b) (Some word) (find (λ n. not (list_any (bytes_eq n) names)) (primes_of m (word ++ codes "'"))))
    f
found_at names (suc k) zero word l a f = absurd (omega (arith, l))
found_at names (suc k) (suc m) word l a f =
    ap (λ b. cond (not b) (Some word)
    (find (λ n. not (list_any (bytes_eq n) names)) (primes_of (suc m) (word ++ codes "'")))) a.0
    ∙ found_at names k m (word ++ codes "'") (omega (arith, l)) a.1 f

-- the first that isn't taken is the free word
pub free_found : (index names : Names) (first word : List ℕ) → FindsNames index names → IsTried index first word
    → list_any (bytes_eq word) index ≡ false
    → word ≡ free_word names first
free_found index names first word h (k, e, a) f =
    let b = taken_too index names k first h a in
    let g : list_any (bytes_eq (behind k first)) names ≡ false =
    sym (h (behind k first)) ∙ subst (λ w. list_any (bytes_eq w) index ≡ false) e f in
    e ∙ sym (ap (λ o. unwrap_or o (all_bytes names ++ first))
    (found_at names k (length names) first (taken_few names k first b) b g))
