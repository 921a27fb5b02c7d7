-- So many rounds are enough as there are files.
use Rattle.std.proofs.Common.{◌≡◌, refl, ℕ, zero, suc, ◌+◌, ◌≤◌, ◌<◌, Bool, true, false, cond, ◌||◌, ◌==◌, length, ap}
use Rattle.std.proofs.Common.{sym, subst, ◌∙◌, arith, inl, inr}
use Rattle.std.proofs.Common.{List, [], ◌∷◌, Contains, Result, Ok, Err}
use Rattle.std.specs.Prelude.{bytes_eq, fold}
use Rattle.std.specs.List.{list_any, flat_map}
use Rattle.std.proofs.lemmas.Bool.Decides.{Decides-eqb}
use Rattle.std.proofs.lemmas.Slice.Eq.{bytes_eq-Decides}
use Rattle.larch_base.proofs.Members.{contained_in_filter, contains_cases, contains_here, contains_later, contains_none}
use Rattle.larch_flat_meaning.specs.Files.{Files, closure, is_there, next_files, spread, targets_in, with_name}
use Rattle.larch_flat_meaning.specs.Laws.{AreAmong}
use Rattle.larch_flat_meaning.specs.Stops.{Stop}
use Rattle.larch_flat_meaning.proofs.Agreement.{every_fold}
use Rattle.larch_flat_meaning.proofs.Closures.{Names, Within, fold_long}
use Rattle.larch_flat_meaning.proofs.Every.{Every, every_contained, every_flat_map}

true_is_false : true ≡ false → ⊥
true_is_false e = cc

-- each name stands there once
abbrev pub Distinct : Names → Type 0
Distinct [] = Unit {0}
Distinct (x ∷ xs) = (list_any (bytes_eq x) xs ≡ false) × Distinct xs

-- the names without the first one that is this
abbrev without : List ℕ → Names → Names
without x [] = []
without x (y ∷ ys) = cond (bytes_eq x y) ys (y ∷ without x ys)

long_by : (x y : List ℕ) (ys : Names) (b : Bool) → bytes_eq x y ≡ b
    → (Contains ys x → suc (length (without x ys)) ≤ length ys) → Contains (y ∷ ys) x
    → suc (length (cond b ys (y ∷ without x ys))) ≤ suc (length ys)
long_by x y ys true q k c = omega arith
long_by x y ys false q k c =
    elim (contains_cases y x ys c) [
      | inl e ↦ (let t = (bytes_eq-Decides x y).1 (sym e) in absurd (true_is_false (sym t ∙ q)))
      | inr d ↦ (let r = k d in omega (arith, r))
    ]

without_long : (x : List ℕ) (ys : Names) → Contains ys x → suc (length (without x ys)) ≤ length ys
without_long x [] c = absurd (contains_none x c)
without_long x (y ∷ ys) c = long_by x y ys (bytes_eq x y) refl (without_long x ys) c

has_by : (x z y : List ℕ) (ys : Names) (b : Bool) → bytes_eq x y ≡ b → bytes_eq x z ≡ false
    → (Contains ys z → Contains (without x ys) z) → Contains (y ∷ ys) z
    → Contains (cond b ys (y ∷ without x ys)) z
has_by x z y ys true q d k c =
    elim (contains_cases y z ys c) [
      | inl e ↦ absurd (true_is_false (sym q ∙ subst (λ w. bytes_eq x w ≡ false) (sym e) d))
      | inr r ↦ r
    ]
has_by x z y ys false q d k c =
    elim (contains_cases y z ys c) [
      | inl e ↦ subst (Contains (y ∷ without x ys)) e (contains_here y (without x ys))
      | inr r ↦ contains_later y z (without x ys) (k r)
    ]

without_has : (x z : List ℕ) (ys : Names) → bytes_eq x z ≡ false → Contains ys z → Contains (without x ys) z
without_has x z [] d c = absurd (contains_none z c)
without_has x z (y ∷ ys) d c = has_by x z y ys (bytes_eq x y) refl d (without_has x z ys d) c

first : (a b : Bool) → (a || b) ≡ false → a ≡ false
first true b e = cc
first false b e = refl

second : (a b : Bool) → (a || b) ≡ false → b ≡ false
second true b e = cc
second false b e = e

-- numbers that differ, the first of which is no less
unequal : (a b : ℕ) → (a ≡ b → ⊥) → b ≤ a → suc b ≤ a
unequal zero zero e l = absurd (e refl)
unequal zero (suc b) e l = omega (arith, l)
unequal (suc a) zero e l = omega arith
unequal (suc a) (suc b) e l = let r = unequal a b (λ q. e (ap suc q)) (omega (arith, l)) in omega (arith, r)

none_is : (x : List ℕ) (xs : Names) (z : List ℕ) → list_any (bytes_eq x) xs ≡ false → Contains xs z
    → bytes_eq x z ≡ false
none_is x [] z e c = absurd (contains_none z c)
none_is x (y ∷ ys) z e c =
    elim (contains_cases y z ys c) [
      | inl q ↦ subst (λ w. bytes_eq x w ≡ false) q (first (bytes_eq x y) (list_any (bytes_eq x) ys) e)
      | inr r ↦ none_is x ys z (second (bytes_eq x y) (list_any (bytes_eq x) ys) e) r
    ]

-- different names that are all among others are no more than those
pub pigeon : (xs ys : Names) → Distinct xs → Within xs ys → length xs ≤ length ys
pigeon [] ys d w = omega arith
pigeon (x ∷ xs) ys d w =
    let long = without_long x ys (w x (contains_here x xs)) in
    let r = pigeon xs (without x ys) d.1
    (λ z m. without_has x z ys (none_is x xs z d.0 m) (w z (contains_later x z xs m))) in
    omega (arith, long, r)

distinct_by : (names more : Names) (n : List ℕ) (b : Bool) → list_any (bytes_eq n) names ≡ b
    → (Distinct names → Distinct (fold with_name names more))
    → (Distinct (n ∷ names) → Distinct (fold with_name (n ∷ names) more)) → Distinct names
    → Distinct (fold with_name (cond b names (n ∷ names)) more)
distinct_by names more n true q k h d = k d
distinct_by names more n false q k h d = h (q, d)

pub distinct_fold : (names more : Names) → Distinct names → Distinct (fold with_name names more)
distinct_fold names [] d = d
distinct_fold names (n ∷ more) d =
    distinct_by names more n (list_any (bytes_eq n) names) refl (distinct_fold names more)
    (distinct_fold (n ∷ names) more) d

pub every_within : (names all : Names) → Every (Contains all) names → Within names all
every_within [] all h x c = absurd (contains_none x c)
every_within (n ∷ names) all h x c =
    elim (contains_cases n x names c) [ inl e ↦ subst (Contains all) e h.0 | inr d ↦ every_within names all h.1 x d ]

-- the files that a file refers to are among all
pub next_among : (files : Files) (all : Names) → AreAmong files all → (m : List ℕ)
    → Every (Contains all) (next_files files m)
next_among files all k m =
    every_contained (Contains all) (next_files files m)
    (λ c t. k c (contained_in_filter (is_there files) (targets_in (files m)) c t).1)

-- names are answered
abbrev pub IsFound : Result Names Stop → Type 0
IsFound (Ok ms) = Unit {0}
IsFound (Err stop) = ⊥

round_by : (files : Files) (all : Names) (n : ℕ) (names : Names) (b : Bool)
    → (length (spread files names) == length names) ≡ b
    → (length all < n + length (spread files names) → IsFound (closure files n (spread files names)))
    → length all < suc n + length names
    → IsFound (cond b (Ok names) (closure files n (spread files names)))
round_by files all n names true q k lt = tt
round_by files all n names false q k lt =
    let g = fold_long names (flat_map (next_files files) names) in
    let u = unequal (length (spread files names)) (length names)
    (λ r. absurd (true_is_false (sym ((Decides-eqb (length (spread files names)) (length names)).1 r) ∙ q))) g in
    k (omega (arith, u, lt))

-- as many rounds as there are names, and one more, tell the closure
pub rounds_tell : (files : Files) (all : Names) → AreAmong files all → (n : ℕ) (names : Names) → Distinct names
    → Every (Contains all) names → length all < n + length names
    → IsFound (closure files n names)
rounds_tell files all k zero names d h lt = let p = pigeon names all d (every_within names all h) in
    absurd (omega (arith, p, lt))
rounds_tell files all k (suc n) names d h lt =
    let more = flat_map (next_files files) names in
    round_by files all n names (length (spread files names) == length names) refl
    (rounds_tell files all k n (spread files names) (distinct_fold names more d)
    (every_fold (Contains all) names more h
    (every_flat_map (Contains all) (Contains all) (next_files files) (λ m _. next_among files all k m) names h)))
    lt
