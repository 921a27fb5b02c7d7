-- The set that is made in steps is the least one that is closed under the operators.
use Rattle.std.proofs.Common.{◌≡◌, ◌≤◌, ◌+◌, ◌==◌, ◌&&◌, ◌||◌, not, ℕ, zero, suc, inl, inr, ◌⊎◌, Bool, true, false}
use Rattle.std.proofs.Common.{List, [], ◌∷◌, Contains, bytes_eq, refl, sym, ◌∙◌, ap, subst, arith}
use Rattle.std.specs.List.{list_all}
use Rattle.std.proofs.lemmas.Slice.Eq.{bytes_eq-Decides}
use Rattle.larch_base.proofs.Bools.{true_or_false, and_left, and_right, and_both, or_left, or_right}
use Rattle.larch_base.proofs.Members.{contains_none, contains_cases, contains_here, contains_later}
use Rattle.larch_term.specs.Operator.{PlainOperator}
use Rattle.larch_term.specs.declared.statement.Statement.TheVariants.{Generated}
use Rattle.larch_models_meaning.specs.Interpretation.{Interpretation, bit, Within}
use Rattle.larch_models_meaning.specs.Models.{ArgumentsIn, IsClosedUnder, Holds}
use Rattle.larch_models_meaning.specs.Computed.{all_arguments, arguments_in, is_unmade, made_in, steps_for}
use Rattle.larch_models_meaning.specs.Computed.{holds_generated}
use Rattle.larch_soundness.proofs.Assignments.{last_or_before, up_to_at, up_to_if}
use Rattle.larch_soundness.proofs.Values.{bit_within, same_numbers, numbers_same}

pub arguments_at : (last : List ℕ → ℕ) (rs : List (List ℕ)) (p : List ℕ → Bool) → all_arguments last rs p ≡ true
    → (vs : List ℕ) → Within last rs vs → p vs ≡ true
arguments_at last [] p h [] w = h
arguments_at last [] p h (v ∷ vs) w = absurd w
arguments_at last (r ∷ rs) p h [] w = absurd w
arguments_at last (r ∷ rs) p h (v ∷ vs) w =
    arguments_at last rs (λ vs. p (v ∷ vs))
    (up_to_at (last r) (λ v. all_arguments last rs (λ vs. p (v ∷ vs))) h v w.0) vs w.1

pub arguments_if : (last : List ℕ → ℕ) (rs : List (List ℕ)) (p : List ℕ → Bool)
    → ((vs : List ℕ) → Within last rs vs → p vs ≡ true) → all_arguments last rs p ≡ true
arguments_if last [] p h = h [] tt
arguments_if last (r ∷ rs) p h =
    up_to_if (last r) (λ v. all_arguments last rs (λ vs. p (v ∷ vs)))
    (λ v le. arguments_if last rs (λ vs. p (v ∷ vs)) (λ vs w. h (v ∷ vs) (le, w)))

pub all_at : {X : Type 0} (p : X → Bool) (xs : List X) → list_all p xs ≡ true → (x : X) → Contains xs x → p x ≡ true
all_at p [] h x c = absurd (contains_none x c)
all_at p (y ∷ xs) h x c =
    elim (contains_cases y x xs c) [
      | inl e ↦ subst (λ z. p z ≡ true) e (and_left (p y) (list_all p xs) h)
      | inr d ↦ all_at p xs (and_right (p y) (list_all p xs) h) x d
    ]

pub all_if : {X : Type 0} (p : X → Bool) (xs : List X) → ((x : X) → Contains xs x → p x ≡ true) → list_all p xs ≡ true
all_if p [] h = refl
all_if p (y ∷ xs) h =
    and_both (p y) (list_all p xs) (h y (contains_here y xs)) (all_if p xs (λ x c. h x (contains_later y x xs c)))

-- truth values and implications
pub implied_so : (b p : Bool) → (not b || p) ≡ true → b ≡ true → p ≡ true
implied_so true p h e = h
implied_so false p h e = cc

pub implied_if : (b p : Bool) → (b ≡ true → p ≡ true) → (not b || p) ≡ true
implied_if true p h = h refl
implied_if false p h = refl

not_both : {X : Type 0} (b : Bool) → b ≡ true → b ≡ false → X
not_both true e f = cc
not_both false e f = cc

not_so : {X : Type 0} (b : Bool) → not b ≡ true → b ≡ true → X
not_so true h e = cc
not_so false h e = cc

not_if : (b : Bool) → (b ≡ true → ⊥) → not b ≡ true
not_if true h = absurd (h refl)
not_if false h = refl

or_cases : (a b : Bool) → (a || b) ≡ true → (a ≡ true) ⊎ (b ≡ true)
or_cases true b h = inl refl
or_cases false b h = inr h

-- one set of numbers is part of another
abbrev IsPart : (ℕ → Bool) → (ℕ → Bool) → Type 0
IsPart p q = (v : ℕ) → p v ≡ true → q v ≡ true

arguments_in_so : (p : ℕ → Bool) (s : List ℕ) (rs : List (List ℕ)) (vs : List ℕ) → arguments_in p s rs vs ≡ true
    → ArgumentsIn p s rs vs
arguments_in_so p s [] vs h = tt
arguments_in_so p s (r ∷ rs) [] h = tt
arguments_in_so p s (r ∷ rs) (v ∷ vs) h =
    let one = not (bytes_eq r s) || p v in
    let rest = arguments_in p s rs vs in (
      λ e. implied_so (bytes_eq r s) (p v) (and_left one rest h) ((bytes_eq-Decides r s).1 e),
      arguments_in_so p s rs vs (and_right one rest h),
    )

arguments_in_if : (p : ℕ → Bool) (s : List ℕ) (rs : List (List ℕ)) (vs : List ℕ) → ArgumentsIn p s rs vs
    → arguments_in p s rs vs ≡ true
arguments_in_if p s [] vs h = refl
arguments_in_if p s (r ∷ rs) [] h = refl
arguments_in_if p s (r ∷ rs) (v ∷ vs) h =
    and_both (not (bytes_eq r s) || p v) (arguments_in p s rs vs)
    (implied_if (bytes_eq r s) (p v) (λ e. h.0 ((bytes_eq-Decides r s).0 e))) (arguments_in_if p s rs vs h.1)

arguments_in_more : (p q : ℕ → Bool) (s : List ℕ) (rs : List (List ℕ)) (vs : List ℕ) → IsPart p q
    → ArgumentsIn p s rs vs
    → ArgumentsIn q s rs vs
arguments_in_more p q s [] vs k h = tt
arguments_in_more p q s (r ∷ rs) [] k h = tt
arguments_in_more p q s (r ∷ rs) (v ∷ vs) k h = (λ e. k v (h.0 e), arguments_in_more p q s rs vs k h.1)

-- the operator doesn't make the value of these arguments, or one of them isn't in the set
abbrev makes_not : Interpretation → List ℕ → (ℕ → Bool) → ℕ → PlainOperator → List ℕ → Bool
makes_not m s q v f vs = not (arguments_in q s f.domain vs && m.table f vs == v)

unmade_outside : (m : Interpretation) (s : List ℕ) (fs : List PlainOperator) (p q : ℕ → Bool) → IsClosedUnder m s fs p
    → IsPart q p → (v : ℕ) → p v ≡ false → is_unmade m s fs q v ≡ true
unmade_outside m s fs p q closed k v e =
    all_if (λ f. all_arguments m.last f.domain (makes_not m s q v f)) fs (λ f c.
    arguments_if m.last f.domain (makes_not m s q v f) (λ vs w.
    let a = arguments_in q s f.domain vs in
    let b = m.table f vs == v in
    not_if (a && b) (λ h.
    not_both (p v)
    (ap p (sym (same_numbers (m.table f vs) v (and_right a b h)))
    ∙ closed f c vs w (arguments_in_more q p s f.domain vs k (arguments_in_so q s f.domain vs (and_left a b h))))
    e)))

-- what is made in some steps is in each closed set
made_in_closed : (m : Interpretation) (s : List ℕ) (fs : List PlainOperator) (p : ℕ → Bool) → IsClosedUnder m s fs p
    → (n : ℕ) → IsPart (made_in m s fs n) p
made_in_closed m s fs p c zero v h = cc
made_in_closed m s fs p c (suc n) v h =
    let q = made_in m s fs n in
    elim (true_or_false (p v)) [
      | inl e ↦ e
      | inr e ↦ elim (or_cases (q v) (not (is_unmade m s fs q v)) h) [
        | inl i ↦ made_in_closed m s fs p c n v i
        | inr i ↦ not_so (is_unmade m s fs q v) i (unmade_outside m s fs p q c (made_in_closed m s fs p c n) v e)
      ]
    ]

pub generated_so : (m : Interpretation) (s : List ℕ) (fs : List PlainOperator) → holds_generated m s fs ≡ true
    → Holds m (Generated s fs)
generated_so m s fs h p c v le =
    made_in_closed m s fs p c (steps_for m s) v (up_to_at (m.last s) (made_in m s fs (steps_for m s)) h v le)

-- one step more makes nothing more
abbrev IsStable : Interpretation → List ℕ → List PlainOperator → ℕ → Type 0
IsStable m s fs k = (v : ℕ) → v ≤ m.last s → made_in m s fs (suc k) v ≡ true → made_in m s fs k v ≡ true

-- the operators have values of the sort
abbrev pub Make : Interpretation → List ℕ → List PlainOperator → Type 0
Make m s fs = (f : PlainOperator) → Contains fs f → (vs : List ℕ) → Within m.last f.domain vs → m.table f vs ≤ m.last s

stable_closed : (m : Interpretation) (s : List ℕ) (fs : List PlainOperator) (k : ℕ) → Make m s fs → IsStable m s fs k
    → IsClosedUnder m s fs (made_in m s fs k)
stable_closed m s fs k le h f c vs w d =
    let q = made_in m s fs k in
    let v = m.table f vs in
    let P : PlainOperator → Bool = λ f. all_arguments m.last f.domain (makes_not m s q v f) in
    h v (le f c vs w)
    (or_right (q v) (not (is_unmade m s fs q v))
    (not_if (is_unmade m s fs q v) (λ u.
    not_so (arguments_in q s f.domain vs && v == v)
    (arguments_at m.last f.domain (makes_not m s q v f) (all_at P fs u f c) vs w)
    (and_both (arguments_in q s f.domain vs) (v == v) (arguments_in_if q s f.domain vs d) (numbers_same v v refl)))))

-- how many numbers up to one are in the set
abbrev count : ℕ → (ℕ → Bool) → ℕ
count zero p = bit (p zero)
count (suc n) p = bit (p (suc n)) + count n p

count_most : (n : ℕ) (p : ℕ → Bool) → count n p ≤ suc n
count_most zero p = bit_within (p zero)
count_most (suc n) p = let a = bit_within (p (suc n)) in let b = count_most n p in omega (arith, a, b)

bit_more : (p q : Bool) → (p ≡ true → q ≡ true) → bit p ≤ bit q
bit_more true q h = subst (λ b. 1 ≤ bit b) (sym (h refl)) (omega arith)
bit_more false q h = omega arith

bit_back : (p q : Bool) → bit q ≤ bit p → q ≡ true → p ≡ true
bit_back true q h e = refl
bit_back false true h e = absurd (omega (arith, h))
bit_back false false h e = e

count_more : (n : ℕ) (p q : ℕ → Bool) → IsPart p q → count n p ≤ count n q
count_more zero p q h = bit_more (p zero) (q zero) (h zero)
count_more (suc n) p q h =
    let a = bit_more (p (suc n)) (q (suc n)) (h (suc n)) in
    let b = count_more n p q h in
    omega (arith, a, b)

-- a part that has as many has the same
count_same : (n : ℕ) (p q : ℕ → Bool) → IsPart p q → count n q ≤ count n p → (v : ℕ) → v ≤ n → q v ≡ true → p v ≡ true
count_same zero p q h c v le e =
    let i : v ≡ zero = omega arith in
    subst (λ k. p k ≡ true) (sym i) (bit_back (p zero) (q zero) c (subst (λ k. q k ≡ true) i e))
count_same (suc n) p q h c v le e =
    let a = bit_more (p (suc n)) (q (suc n)) (h (suc n)) in
    let b = count_more n p q h in
    let back : bit (q (suc n)) ≤ bit (p (suc n)) = omega (arith, a, b, c) in
    let rest : count n q ≤ count n p = omega (arith, a, b, c) in
    elim (last_or_before n v le) [
      | inl i ↦ subst (λ k. p k ≡ true) (sym i) (bit_back (p (suc n)) (q (suc n)) back (subst (λ k. q k ≡ true) i e))
      | inr l ↦ count_same n p q h rest v l e
    ]

-- a set that has as many as there are has all
count_all : (n : ℕ) (p : ℕ → Bool) → suc n ≤ count n p → (v : ℕ) → v ≤ n → p v ≡ true
count_all n p c v le =
    let all : count n (λ v. true) ≤ count n p = let m = count_most n (λ v. true) in omega (arith, m, c) in
    count_same n p (λ v. true) (λ v e. refl) all v le refl

made_more : (m : Interpretation) (s : List ℕ) (fs : List PlainOperator) (k : ℕ)
    → IsPart (made_in m s fs k) (made_in m s fs (suc k))
made_more m s fs k v h = or_left (made_in m s fs k v) (not (is_unmade m s fs (made_in m s fs k) v)) h

made_later : (m : Interpretation) (s : List ℕ) (fs : List PlainOperator) (j k : ℕ) → j ≤ k
    → IsPart (made_in m s fs j) (made_in m s fs k)
made_later m s fs j zero le v h = let e : j ≡ zero = omega arith in subst (λ i. made_in m s fs i v ≡ true) e h
made_later m s fs j (suc k) le v h =
    elim (last_or_before k j le) [
      | inl e ↦ subst (λ i. made_in m s fs i v ≡ true) e h
      | inr l ↦ made_more m s fs k v (made_later m s fs j k l v h)
    ]

less_or_more : (a b : ℕ) → (b ≤ a) ⊎ (suc a ≤ b)
less_or_more a zero = inl (omega arith)
less_or_more zero (suc b) = inr (omega arith)
less_or_more (suc a) (suc b) =
    elim (less_or_more a b) [ inl l ↦ inl (omega (arith, l)) | inr l ↦ inr (omega (arith, l)) ]

-- each step makes a value more, until one makes nothing more
grows : (m : Interpretation) (s : List ℕ) (fs : List PlainOperator) (k : ℕ)
    → ((j : ℕ) × (j ≤ k) × IsStable m s fs j) ⊎ (k ≤ count (m.last s) (made_in m s fs k))
grows m s fs zero = inr (omega arith)
grows m s fs (suc k) =
    let p = made_in m s fs k in
    let q = made_in m s fs (suc k) in
    elim (grows m s fs k) [
      | inl r ↦ let le = r.1 in inl (r.0, omega (arith, le), r.2)
      | inr h ↦
          elim (less_or_more (count (m.last s) p) (count (m.last s) q)) [
            | inl c ↦ inl (k, omega arith, count_same (m.last s) p q (made_more m s fs k) c)
            | inr l ↦ inr (omega (arith, h, l))
          ]
    ]

pub generated_if : (m : Interpretation) (s : List ℕ) (fs : List PlainOperator) → Make m s fs → Holds m (Generated s fs)
    → holds_generated m s fs ≡ true
generated_if m s fs le h =
    let n = steps_for m s in
    up_to_if (m.last s) (made_in m s fs n) (λ v l. elim (grows m s fs n) [
      | inl r ↦ made_later m s fs r.0 n r.1 v (h (made_in m s fs r.0) (stable_closed m s fs r.0 le r.2) v l)
      | inr g ↦ count_all (m.last s) (made_in m s fs n) g v l
    ])
