-- Numbers that are moved on.
use Rattle.std.proofs.Common.{◌≡◌, ℕ, ◌+◌, ◌-◌, ◌<◌, ◌≤◌, ◌^◌, Bool, true, false, cond, refl, ap, arith}
use Rattle.std.specs.Prelude.{nat_lt}
use Rattle.std.proofs.lemmas.Bool.{ltb-true, ltb-false, lt-ltb}
use Rattle.larch_term.specs.Operator.{OperatorName, plain, boxed}
use Rattle.larch_derive_join.specs.Joined.{moved_on, name_on}

-- a number that stays below the end
pub moved_fits : (o n : ℕ) → n + o < 2 ^ 64 → moved_on o n ≡ n + o
moved_fits o n lt =
    (λ i. cond (lt-ltb n (2 ^ 64) (omega (arith, lt)) i) (cond (lt-ltb (n + o) (2 ^ 64) lt i) (n + o)
    (n + o - 2 ^ 64)) n)

-- which of three it is
pub by_end : (o n : ℕ) (P : Type 0) → (n + o < 2 ^ 64 → moved_on o n ≡ n + o → P)
    → (n < 2 ^ 64 → 2 ^ 64 ≤ n + o → moved_on o n + 2 ^ 64 ≡ n + o → P)
    → (2 ^ 64 ≤ n → moved_on o n ≡ n → P) → P
by_end o n P fits round beyond = first (nat_lt n (2 ^ 64)) refl (nat_lt (n + o) (2 ^ 64)) refl
  where
    first : (a : Bool) → nat_lt n (2 ^ 64) ≡ a → (b : Bool) → nat_lt (n + o) (2 ^ 64) ≡ b → P
    first true p true q = let lt = ltb-true (n + o) (2 ^ 64) q in fits lt (moved_fits o n lt)
    first true p false q =
        let lt = ltb-true n (2 ^ 64) p in
        let le = ltb-false (n + o) (2 ^ 64) q in
        let is : moved_on o n ≡ n + o - 2 ^ 64 =
        (λ i. cond (p i) (cond (q i) (n + o) (n + o - 2 ^ 64)) n) in
        round lt le (omega (arith, le, is))
    first false p b q =
        beyond (ltb-false n (2 ^ 64) p)
        (ap (λ a. cond a (cond (nat_lt (n + o) (2 ^ 64)) (n + o) (n + o - 2 ^ 64)) n) p)

-- no two numbers become one
pub moved_apart : (o a b : ℕ) → o < 2 ^ 64 → moved_on o a ≡ moved_on o b → a ≡ b
moved_apart o a b lt e =
    by_end o a (a ≡ b)
    (λ p q. by_end o b (a ≡ b) (λ r s. omega (arith, e, q, s)) (λ r k s. omega (arith, e, p, q, r, s, lt))
    (λ r s. omega (arith, e, p, q, r, s)))
    (λ p j q. by_end o b (a ≡ b) (λ r s. omega (arith, e, p, q, r, s, lt)) (λ r k s. omega (arith, e, q, s))
    (λ r s. omega (arith, e, p, q, r, s, lt)))
    (λ p q. by_end o b (a ≡ b) (λ r s. omega (arith, e, p, q, r, s)) (λ r k s. omega (arith, e, p, q, r, s, lt))
    (λ r s. omega (arith, e, q, s)))

boxed_parts : (a j b k : ℕ) → boxed a j ≡ boxed b k → (a ≡ b) × (j ≡ k)
boxed_parts a j b k e = (cc, cc)

-- exactly what is of a box is of the box moved on
pub box_of : (o : ℕ) → o < 2 ^ 64 → (n : OperatorName) (b k : ℕ) → name_on o n ≡ boxed (moved_on o b) k → n ≡ boxed b k
box_of o lt (plain n) b k e = cc
box_of o lt (boxed a j) b k e =
    let p = boxed_parts (moved_on o a) j (moved_on o b) k e in
    λ i. boxed (moved_apart o a b lt p.0 i) (p.1 i)

-- no number goes beyond the end
pub moved_small : (o n : ℕ) → o < 2 ^ 64 → n < 2 ^ 64 → moved_on o n < 2 ^ 64
moved_small o n small lt =
    by_end o n (moved_on o n < 2 ^ 64) (λ p q. omega (arith, p, q)) (λ p k q. omega (arith, p, q, small))
    (λ p q. omega (arith, p, lt))
