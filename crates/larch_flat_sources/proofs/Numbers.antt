-- MarkedFiles and lists of numbers.
use Rattle.std.proofs.Common.{◌≡◌, refl, ℕ, zero, suc, ◌+◌, ◌≤◌, ◌<◌, ◌≢◌, ◌⊎◌, Bool, true, false, cond, length, set}
use Rattle.std.proofs.Common.{replicate, ap, sym, subst, ◌∙◌, arith, inl, inr}
use Rattle.std.proofs.Common.{Some, List, [], ◌∷◌, ◌++◌, Contains}
use Rattle.std.specs.List.{slice_get}
use Rattle.std.proofs.lemmas.Bool.{cases_order}
use Rattle.std.proofs.lemmas.List.{get_or-set_other, get_or-set_same}
use Rattle.larch_base.proofs.Members.{contains_none}
use Rattle.larch_flat_sources.specs.Links.{is_marked, referring}
use Rattle.larch_flat_sources.specs.Search.{marked_count}

count_by_case : (b : Bool) (n m : ℕ) → n ≤ m → cond b (suc n) n ≤ suc m
count_by_case true n m l = omega (arith, l)
count_by_case false n m l = omega (arith, l)

-- no more are marked than there are
pub count_within : (marks : List Bool) → marked_count marks ≤ length marks
count_within [] = omega arith
count_within (b ∷ marks) = count_by_case b (marked_count marks) (length marks) (count_within marks)

suc_cond : (b : Bool) (n : ℕ) → cond b (suc (suc n)) (suc n) ≡ suc (cond b (suc n) n)
suc_cond true n = refl
suc_cond false n = refl

-- one more is marked
pub count_marked : (marks : List Bool) (a : ℕ) → a < length marks → is_marked marks a ≡ false
    → marked_count (set marks a true) ≡ suc (marked_count marks)
count_marked [] a lt e = absurd (omega (arith, lt))
count_marked (b ∷ marks) zero lt e = sym (ap (λ c. suc (cond c (suc (marked_count marks)) (marked_count marks))) e)
count_marked (b ∷ marks) (suc a) lt e =
    ap (λ n. cond b (suc n) n) (count_marked marks a (omega (arith, lt)) e) ∙ suc_cond b (marked_count marks)

-- what is marked stays so
pub marked_stays : (marks : List Bool) (a m : ℕ) → a < length marks → is_marked marks m ≡ true
    → is_marked (set marks a true) m ≡ true
marked_stays marks a m lt e =
    elim (cases_order m a) [
      | inl q ↦ subst (λ k. is_marked (set marks a true) k ≡ true) (sym q) (get_or-set_same marks a true false lt)
      | inr r ↦ elim r [
        | inl l ↦ (let u : m ≢ a = omega (arith, l) in get_or-set_other marks a m true false u ∙ e)
        | inr l ↦ (let u : m ≢ a = omega (arith, l) in get_or-set_other marks a m true false u ∙ e)
      ]
    ]

-- what is marked was so before, or is what was marked
pub marked_before : (marks : List Bool) (a m : ℕ) → is_marked (set marks a true) m ≡ true
    → (m ≡ a) ⊎ (is_marked marks m ≡ true)
marked_before marks a m e =
    elim (cases_order m a) [
      | inl q ↦ inl q
      | inr r ↦ elim r [
        | inl l ↦ (let u : m ≢ a = omega (arith, l) in inr (sym (get_or-set_other marks a m true false u) ∙ e))
        | inr l ↦ (let u : m ≢ a = omega (arith, l) in inr (sym (get_or-set_other marks a m true false u) ∙ e))
      ]
    ]

pub some_same : {A : Type 0} {x y : A} → Some x ≡ Some y → x ≡ y
some_same e = cc

pub false_true : false ≡ true → ⊥
false_true e = cc

-- no number past the marks is marked
pub marked_within : (marks : List Bool) (m : ℕ) → is_marked marks m ≡ true → m < length marks
marked_within [] m e = cc
marked_within (b ∷ marks) zero e = omega arith
marked_within (b ∷ marks) (suc m) e = let r = marked_within marks m e in omega (arith, r)

-- nothing is marked at first
pub none_marked : (n m : ℕ) → is_marked (replicate n false) m ≡ false
none_marked zero m = refl
none_marked (suc n) zero = refl
none_marked (suc n) (suc m) = none_marked n m

-- nothing refers to a number past the links
pub referring_within : (links : List (List ℕ)) (b a : ℕ) → Contains (referring links b) a → b < length links
referring_within [] b a c = absurd (contains_none a c)
referring_within (l ∷ links) zero a c = omega arith
referring_within (l ∷ links) (suc b) a c = let r = referring_within links b a c in omega (arith, r)

pub nothing_refers : (n k : ℕ) → referring (replicate n []) k ≡ []
nothing_refers zero k = refl
nothing_refers (suc n) zero = refl
nothing_refers (suc n) (suc k) = nothing_refers n k

-- what stands in a list before its end
pub got_before : (xs : List ℕ) (y i b : ℕ) → i < length xs → slice_get (xs ++ y ∷ []) i ≡ Some b
    → slice_get xs i ≡ Some b
got_before [] y i b lt e = absurd (omega (arith, lt))
got_before (x ∷ xs) y zero b lt e = e
got_before (x ∷ xs) y (suc i) b lt e = got_before xs y i b (omega (arith, lt)) e

pub got_still : (xs : List ℕ) (y i b : ℕ) → slice_get xs i ≡ Some b → slice_get (xs ++ y ∷ []) i ≡ Some b
got_still [] y i b e = cc
got_still (x ∷ xs) y zero b e = e
got_still (x ∷ xs) y (suc i) b e = got_still xs y i b e

replicate_suc : {A : Type 0} (n : ℕ) (x : A) → replicate n x ++ x ∷ [] ≡ replicate (suc n) x
replicate_suc zero x = refl
replicate_suc (suc n) x = ap (λ xs. x ∷ xs) (replicate_suc n x)

-- one more of the same
pub replicate_push : {A : Type 0} (n : ℕ) (x : A) → replicate n x ++ x ∷ [] ≡ replicate (n + 1) x
replicate_push n x = let e : suc n ≡ n + 1 = omega arith in replicate_suc n x ∙ ap (λ k. replicate k x) e
