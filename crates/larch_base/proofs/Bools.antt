-- Facts of truth values.
use Rattle.std.proofs.Common.{◌≡◌, ◌⊎◌, inl, inr, Bool, true, false, ◌&&◌, ◌||◌, refl, sym}

pub true_or_false : (b : Bool) → (b ≡ true) ⊎ (b ≡ false)
true_or_false true = inl refl
true_or_false false = inr refl

-- two truth values that imply each other are one
pub same_truth : (a b : Bool) → (a ≡ true → b ≡ true) → (b ≡ true → a ≡ true) → a ≡ b
same_truth true b f g = sym (f refl)
same_truth false true f g = g refl
same_truth false false f g = refl

pub and_left : (a b : Bool) → (a && b) ≡ true → a ≡ true
and_left true b e = refl
and_left false b e = e

pub and_right : (a b : Bool) → (a && b) ≡ true → b ≡ true
and_right true b e = e
and_right false b e = cc

pub both_true : (a b : Bool) → (a && b) ≡ true → (a ≡ true) × (b ≡ true)
both_true a b e = (and_left a b e, and_right a b e)

pub and_both : (a b : Bool) → a ≡ true → b ≡ true → (a && b) ≡ true
and_both true b p q = q
and_both false b p q = p

pub and_not_left : (a b : Bool) → a ≡ false → (a && b) ≡ false
and_not_left true b e = cc
and_not_left false b e = refl

pub and_not_right : (a b : Bool) → b ≡ false → (a && b) ≡ false
and_not_right true b e = e
and_not_right false b e = refl

-- where one side is known the other is the answer
pub and_known_left : (a b : Bool) → a ≡ true → (a && b) ≡ b
and_known_left true b e = refl
and_known_left false b e = cc

pub and_known_right : (a b : Bool) → b ≡ true → (a && b) ≡ a
and_known_right true b e = e
and_known_right false b e = refl

pub or_known_left : (a b : Bool) → a ≡ false → (a || b) ≡ b
or_known_left true b e = cc
or_known_left false b e = refl

pub or_known_right : (a b : Bool) → b ≡ false → (a || b) ≡ a
or_known_right true b e = refl
or_known_right false b e = e

pub or_left : (a b : Bool) → a ≡ true → (a || b) ≡ true
or_left true b e = refl
or_left false b e = cc

pub or_right : (a b : Bool) → b ≡ true → (a || b) ≡ true
or_right true b e = refl
or_right false b e = e

pub or_both : (a b : Bool) → a ≡ false → b ≡ false → (a || b) ≡ false
or_both true b p q = p
or_both false b p q = q

pub or_assoc : (a b c : Bool) → (a || (b || c)) ≡ ((a || b) || c)
or_assoc true b c = refl
or_assoc false b c = refl
