-- The marks that are computed are those of what is reached.
use Rattle.std.proofs.Common.{◌≡◌, ℕ, zero, suc, ◌==◌, ◌+◌, ◌-◌, ◌<◌, ◌≤◌, ◌||◌, ◌&&◌, Bool, true, false, cond, inl}
use Rattle.std.proofs.Common.{inr, ◌⊎◌, List, [], ◌∷◌, map, length, Contains, None, refl, sym, ◌∙◌, ap}
use Rattle.std.proofs.Common.{subst, arith}
use Rattle.std.specs.Prelude.{nat_lt}
use Rattle.std.specs.List.{slice_get, list_any}
use Rattle.std.specs.Option.{option_map_or}
use Rattle.std.proofs.lemmas.Bool.{ne_eqb, eqb-true, eq-eqb, ltb-true, ltb-false}
use Rattle.larch_base.proofs.Bools.{and_left, and_right, and_both, or_left, or_right, same_truth}
use Rattle.larch_base.proofs.Members.{contains_none, contains_here, contains_later, contains_cases}
use Rattle.larch_base.specs.ByNumber.{numbered}
use Rattle.larch_trim_meaning.specs.Reached.{Reached, first, further, numbers_from, is_marked, gets_mark, more_marks}
use Rattle.larch_trim_meaning.specs.Reached.{rounds, last_mark, reached_marks}

-- ---- lists by number

pub numbered_suc : {X : Type 0} (xs : List X) (i : ℕ) → numbered xs (suc i) ≡ slice_get xs i
numbered_suc xs i =
    let one : suc i - 1 ≡ i = omega arith in
    ap (λ b. cond b None (slice_get xs (suc i - 1))) (ne_eqb (suc i) 0 (λ p. omega (arith, p)))
    ∙ ap (slice_get xs) one

pub below_or_not : (i k : ℕ) → (i < k) ⊎ (k ≤ i)
below_or_not i k = split (nat_lt i k) refl
  where
    split : (b : Bool) → nat_lt i k ≡ b → (i < k) ⊎ (k ≤ i)
    split true e = inl (ltb-true i k e)
    split false e = inr (ltb-false i k e)

or_either : (a b : Bool) → (a || b) ≡ true → (a ≡ true) ⊎ (b ≡ true)
or_either true b e = inl refl
or_either false b e = inr e

pub any_told : {X : Type 0} (p : X → Bool) (xs : List X) → list_any p xs ≡ true → (x : X) × Contains xs x × (p x ≡ true)
any_told p [] e = cc
any_told p (x ∷ xs) e =
    elim (or_either (p x) (list_any p xs) e) [
      | inl q ↦ (x, contains_here x xs, q)
      | inr q ↦ let r = any_told p xs q in (r.0, contains_later x r.0 xs r.1, r.2)
    ]

pub any_passes : {X : Type 0} (p : X → Bool) (xs : List X) (x : X) → Contains xs x → p x ≡ true → list_any p xs ≡ true
any_passes p [] x c e = absurd (contains_none x c)
any_passes p (y ∷ xs) x c e =
    elim (contains_cases y x xs c) [
      | inl q ↦ or_left (p y) (list_any p xs) (ap p q ∙ e)
      | inr d ↦ or_right (p y) (list_any p xs) (any_passes p xs x d e)
    ]

numbers_have : (a k n : ℕ) → a ≤ n → n < a + k → Contains (numbers_from a k) n
numbers_have a zero n le lt = absurd (omega (arith, le, lt))
numbers_have a (suc k) n le lt =
    elim (below_or_not a n) [
      | inl q ↦ contains_later a n (numbers_from (suc a) k) (numbers_have (suc a) k n (omega (arith, q))
          (omega (arith, lt)))
      | inr q ↦ let same : a ≡ n = omega (arith, q, le) in
          subst (Contains (a ∷ numbers_from (suc a) k)) same (contains_here a (numbers_from (suc a) k))
    ]

-- ---- marks by place

abbrev pub mark_at : List Bool → ℕ → Bool
mark_at ms i = option_map_or (λ b. b) (slice_get ms i) false

pub marked_suc : (ms : List Bool) (i : ℕ) → is_marked ms (suc i) ≡ mark_at ms i
marked_suc ms i = ap (λ o. option_map_or (λ b. b) o false) (numbered_suc ms i)

pub within : (ms : List Bool) (i : ℕ) → mark_at ms i ≡ true → i < length ms
within [] i e = cc
within (m ∷ ms) zero e = omega arith
within (m ∷ ms) (suc i) e = let lt = within ms i e in omega (arith, lt)

beyond : (ms : List Bool) (i : ℕ) → length ms ≤ i → mark_at ms i ≡ false
beyond [] i le = refl
beyond (m ∷ ms) zero le = absurd (omega (arith, le))
beyond (m ∷ ms) (suc i) le = beyond ms i (omega (arith, le))

-- only numbers from 1 on have marks
pub marked_within : (ms : List Bool) (n : ℕ) → is_marked ms n ≡ true → (0 < n) × (n ≤ length ms)
marked_within ms zero e = cc
marked_within ms (suc i) e =
    let lt = within ms i (sym (marked_suc ms i) ∙ e) in (omega arith, omega (arith, lt))

same_at : (xs ys : List Bool) → length xs ≡ length ys → ((i : ℕ) → mark_at xs i ≡ mark_at ys i) → xs ≡ ys
same_at [] [] e k = refl
same_at [] (y ∷ ys) e k = absurd (omega (arith, e))
same_at (x ∷ xs) [] e k = absurd (omega (arith, e))
same_at (x ∷ xs) (y ∷ ys) e k =
    let rest = same_at xs ys (omega (arith, e)) (λ i. k (suc i)) in λ i. k 0 i ∷ rest i

-- marks are told by what is marked
pub same_marks : (xs ys : List Bool) → length xs ≡ length ys → ((n : ℕ) → is_marked xs n ≡ is_marked ys n) → xs ≡ ys
same_marks xs ys e k = same_at xs ys e (λ i. sym (marked_suc xs i) ∙ k (suc i) ∙ marked_suc ys i)

pub length_from : (f : ℕ → Bool) (a k : ℕ) → length (map f (numbers_from a k)) ≡ k
length_from f a zero = refl
length_from f a (suc k) = ap suc (length_from f (suc a) k)

at_from : (f : ℕ → Bool) (a k i : ℕ) → i < k → mark_at (map f (numbers_from a k)) i ≡ f (a + i)
at_from f a zero i lt = absurd (omega (arith, lt))
at_from f a (suc k) zero lt = let e : a ≡ a + 0 = omega arith in ap f e
at_from f a (suc k) (suc i) lt =
    let e : suc a + i ≡ a + suc i = omega arith in at_from f (suc a) k i (omega (arith, lt)) ∙ ap f e

pub marked_map : (f : ℕ → Bool) (k n : ℕ) → 0 < n → n ≤ k → is_marked (map f (numbers_from 1 k)) n ≡ f n
marked_map f k zero lt le = absurd (omega (arith, lt))
marked_map f k (suc i) lt le =
    let e : 1 + i ≡ suc i = omega arith in
    marked_suc (map f (numbers_from 1 k)) i ∙ at_from f 1 k i (omega (arith, le)) ∙ ap f e

pub marked_map_told : (f : ℕ → Bool) (k n : ℕ) → is_marked (map f (numbers_from 1 k)) n ≡ true
    → (0 < n) × ((n ≤ k) × (f n ≡ true))
marked_map_told f k n e =
    let w = marked_within (map f (numbers_from 1 k)) n e in
    let le : n ≤ k = subst (λ z. n ≤ z) (length_from f 1 k) w.1 in
    (w.0, (le, sym (marked_map f k n w.0 le) ∙ e))

as_map : (ms : List Bool) → ms ≡ map (is_marked ms) (numbers_from 1 (length ms))
as_map ms =
    let ns = numbers_from 1 (length ms) in
    let long = length_from (is_marked ms) 1 (length ms) in
    same_at ms (map (is_marked ms) ns) (sym long)
    (λ i. elim (below_or_not i (length ms)) [
      | inl lt ↦ let e : 1 + i ≡ suc i = omega arith in
          sym (at_from (is_marked ms) 1 (length ms) i lt ∙ ap (is_marked ms) e ∙ marked_suc ms i)
      | inr le ↦ beyond ms i le ∙ sym (beyond (map (is_marked ms) ns) i (omega (arith, le, long)))
    ])

-- ---- how many marks there are

abbrev pub count_marks : List Bool → ℕ
count_marks [] = 0
count_marks (m ∷ ms) = cond m 1 0 + count_marks ms

count_bound : (m : Bool) (n : ℕ) → cond m 1 0 + n ≤ suc n
count_bound true n = omega arith
count_bound false n = omega arith

pub count_fits : (ms : List Bool) → count_marks ms ≤ length ms
count_fits [] = omega arith
count_fits (m ∷ ms) = let a = count_fits ms in let b = count_bound m (count_marks ms) in omega (arith, a, b)

counted_at : (ms : List Bool) (i : ℕ) → mark_at ms i ≡ true → 0 < count_marks ms
counted_at [] i e = cc
counted_at (true ∷ ms) i e = omega arith
counted_at (false ∷ ms) zero e = cc
counted_at (false ∷ ms) (suc i) e = let lt = counted_at ms i e in omega (arith, lt)

pub marked_counted : (ms : List Bool) (n : ℕ) → is_marked ms n ≡ true → 0 < count_marks ms
marked_counted ms zero e = cc
marked_counted ms (suc i) e = counted_at ms i (sym (marked_suc ms i) ∙ e)

-- where marks come, they are the same or there are more
record Grown (xs ys : List Bool) : Type 0 where
  le : count_marks xs ≤ count_marks ys
  same : (xs ≡ ys) ⊎ (count_marks xs < count_marks ys)

one_grown : (a b : Bool) (xs ys : List Bool) → (a ≡ true → b ≡ true) → Grown xs ys → Grown (a ∷ xs) (b ∷ ys)
one_grown true true xs ys k g =
    let le = g.le in
    record {
      le = omega (arith, le);
      same = elim g.same [ inl e ↦ inl (ap (λ zs. true ∷ zs) e) | inr lt ↦ inr (omega (arith, lt)) ];
    }
one_grown true false xs ys k g = absurd (let e = k refl in cc)
one_grown false true xs ys k g = let le = g.le in record { le = omega (arith, le); same = inr (omega (arith, le)) }
one_grown false false xs ys k g =
    let le = g.le in
    record {
      le = omega (arith, le);
      same = elim g.same [ inl e ↦ inl (ap (λ zs. false ∷ zs) e) | inr lt ↦ inr (omega (arith, lt)) ];
    }

grown : (f g : ℕ → Bool) → ((n : ℕ) → f n ≡ true → g n ≡ true) → (ns : List ℕ) → Grown (map f ns) (map g ns)
grown f g k [] = record { le = omega arith; same = inl refl }
grown f g k (n ∷ ns) = one_grown (f n) (g n) (map f ns) (map g ns) (k n) (grown f g k ns)

-- ---- rounds

module _ (wants : ℕ → List ℕ) where
  abbrev more : List Bool → List Bool
  more ms = more_marks wants ms

  abbrev wanted : List Bool → ℕ → Bool
  wanted ms n =
      list_any (λ m. is_marked ms m && list_any (λ k. k == n) (wants m)) (numbers_from 1 (length ms))

  more_length : (ms : List Bool) → length (more ms) ≡ length ms
  more_length ms = length_from (gets_mark wants ms) 1 (length ms)

  more_keeps : (ms : List Bool) (n : ℕ) → is_marked ms n ≡ true → is_marked (more ms) n ≡ true
  more_keeps ms n e =
      let w = marked_within ms n e in
      marked_map (gets_mark wants ms) (length ms) n w.0 w.1 ∙ or_left (is_marked ms n) (wanted ms n) e

  -- what a marked number wants gets a mark
  more_takes : (ms : List Bool) (m n : ℕ) → is_marked ms m ≡ true → Contains (wants m) n → 0 < n → n ≤ length ms
      → is_marked (more ms) n ≡ true
  more_takes ms m n e c lt le =
      let w = marked_within ms m e in
      let low : 1 ≤ m = w.0 in
      let high = w.1 in
      let there = numbers_have 1 (length ms) m low (omega (arith, high)) in
      let named = any_passes (λ k. k == n) (wants m) n c (eq-eqb n n refl) in
      marked_map (gets_mark wants ms) (length ms) n lt le
      ∙ or_right (is_marked ms n) (wanted ms n)
      (any_passes (λ z. is_marked ms z && list_any (λ k. k == n) (wants z)) (numbers_from 1 (length ms)) m there
      (and_both (is_marked ms m) (list_any (λ k. k == n) (wants m)) e named))

  more_grows : (ms : List Bool) → (ms ≡ more ms) ⊎ (count_marks ms < count_marks (more ms))
  more_grows ms =
      let ns = numbers_from 1 (length ms) in
      subst (λ xs. (xs ≡ more ms) ⊎ (count_marks xs < count_marks (more ms))) (sym (as_map ms))
      (grown (is_marked ms) (gets_mark wants ms) (λ n e. or_left (is_marked ms n) (wanted ms n) e) ns).same

  still : (ms : List Bool) → ms ≡ more ms → (k : ℕ) → rounds k more ms ≡ ms
  still ms e zero = refl
  still ms e (suc k) = ap (rounds k more) (sym e) ∙ still ms e k

  fills : (k : ℕ) (ms : List Bool)
      → (rounds k more ms ≡ more (rounds k more ms)) ⊎ (count_marks ms + k ≤ count_marks (rounds k more ms))
  fills zero ms = inr (omega arith)
  fills (suc k) ms =
      elim (more_grows ms) [
        | inl e ↦ inl (subst (λ xs. xs ≡ more xs) (sym (still ms e (suc k))) e)
        | inr lt ↦ elim (fills k (more ms)) [ inl e ↦ inl e | inr le ↦ inr (omega (arith, lt, le)) ]
      ]

  repeated_length : (k : ℕ) (ms : List Bool) → length (rounds k more ms) ≡ length ms
  repeated_length zero ms = refl
  repeated_length (suc k) ms = repeated_length k (more ms) ∙ more_length ms

  repeated_keeps : (k : ℕ) (ms : List Bool) (n : ℕ) → is_marked ms n ≡ true → is_marked (rounds k more ms) n ≡ true
  repeated_keeps zero ms n e = e
  repeated_keeps (suc k) ms n e = repeated_keeps k (more ms) n (more_keeps ms n e)

  pub reached_length : (last : ℕ) → length (reached_marks wants last) ≡ last
  reached_length last = repeated_length last (last_mark last) ∙ length_from (λ k. k == last) 1 last

  last_marked : (last : ℕ) → 0 < last → is_marked (last_mark last) last ≡ true
  last_marked last lt = marked_map (λ k. k == last) last last lt (omega arith) ∙ eq-eqb last last refl

  -- no more are to be found
  reached_still : (last : ℕ) → reached_marks wants last ≡ more (reached_marks wants last)
  reached_still zero = refl
  reached_still (suc l) =
      elim (fills (suc l) (last_mark (suc l))) [
        | inl e ↦ e
        | inr le ↦
            let one = marked_counted (last_mark (suc l)) (suc l) (last_marked (suc l) (omega arith)) in
            let fits = count_fits (reached_marks wants (suc l)) in
            let long = reached_length (suc l) in
            absurd (omega (arith, le, one, fits, long))
      ]

  module _ (last : ℕ) where
    abbrev AreReached : List Bool → Type 0
    AreReached ms = (n : ℕ) → is_marked ms n ≡ true → Reached wants last n

    more_reached : (ms : List Bool) → length ms ≡ last → AreReached ms → AreReached (more ms)
    more_reached ms long k n e =
        let t = marked_map_told (gets_mark wants ms) (length ms) n e in
        let high = t.1.0 in
        elim (or_either (is_marked ms n) (wanted ms n) t.1.1) [
          | inl q ↦ k n q
          | inr q ↦
              let wants_it : ℕ → Bool = λ m. list_any (λ i. i == n) (wants m) in
              let r = any_told (λ m. is_marked ms m && wants_it m) (numbers_from 1 (length ms)) q in
              let m : ℕ = r.0 in
              let a : is_marked ms m ≡ true = and_left (is_marked ms m) (wants_it m) r.2 in
              let b = any_told (λ i. i == n) (wants m) (and_right (is_marked ms m) (wants_it m) r.2) in
              further m n (k m a) (subst (Contains (wants m)) (eqb-true b.0 n b.2) b.1) t.0 (omega (arith, high, long))
        ]

    repeated_reached : (k : ℕ) (ms : List Bool) → length ms ≡ last → AreReached ms → AreReached (rounds k more ms)
    repeated_reached zero ms long r = r
    repeated_reached (suc k) ms long r =
        repeated_reached k (more ms) (more_length ms ∙ long) (more_reached ms long r)

    last_reached : AreReached (last_mark last)
    last_reached n e =
        let t = marked_map_told (λ k. k == last) last n e in
        let same : n ≡ last = eqb-true n last t.1.1 in
        subst (Reached wants last) (sym same) (first (subst (λ z. 0 < z) same t.0))

    -- what has a mark is reached
    pub marked_reached : (n : ℕ) → is_marked (reached_marks wants last) n ≡ true → Reached wants last n
    marked_reached n e =
        repeated_reached last (last_mark last) (length_from (λ k. k == last) 1 last) last_reached n e

    -- what is reached has a mark
    pub reached_marked : (n : ℕ) → Reached wants last n → is_marked (reached_marks wants last) n ≡ true
    reached_marked n (first lt) = repeated_keeps last (last_mark last) last (last_marked last lt)
    reached_marked _ (further m n r c lt le) =
        let ms = reached_marks wants last in
        let long = reached_length last in
        subst (λ xs. is_marked xs n ≡ true) (sym (reached_still last))
        (more_takes ms m n (reached_marked m r) c lt (omega (arith, le, long)))

    -- marks of what is reached, and of no more, are the computed ones
    pub marks_are_reached : (ms : List Bool) → length ms ≡ last → AreReached ms
        → ((n : ℕ) → Reached wants last n → is_marked ms n ≡ true) → ms ≡ reached_marks wants last
    marks_are_reached ms long sound all =
        same_marks ms (reached_marks wants last) (long ∙ sym (reached_length last))
        (λ n. same_truth (is_marked ms n) (is_marked (reached_marks wants last) n)
        (λ e. reached_marked n (sound n e)) (λ e. all n (marked_reached n e)))
