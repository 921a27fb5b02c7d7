-- What takes the place of a constant of a box.
use Rattle.std.proofs.Common.{◌≡◌, ◌≢◌, ℕ, zero, suc, ◌+◌, ◌<◌, List, [], ◌∷◌, slice_get, None, refl, arith}
use Rattle.larch_term.specs.Operator.{plain, boxed}
use Rattle.larch_verify_pool.specs.Exchanging.{constant_image}

-- a name that is bytes is no constant's
pub constant_plain : (b k : ℕ) (vs n : List ℕ) → constant_image b k vs (plain n) ≡ None
constant_plain b k [] n = refl
constant_plain b k (v ∷ vs) n = constant_plain b (suc k) vs n

-- nor is the name of a constant of another box
pub constant_elsewhere : (b k : ℕ) (vs : List ℕ) (c l : ℕ) → c ≢ b → constant_image b k vs (boxed c l) ≡ None
constant_elsewhere b k [] c l h = refl
constant_elsewhere b k (v ∷ vs) c l h = grind (arith, constant_elsewhere b (suc k) vs c l h)

-- nor that of a constant before the first
pub constant_before : (b k : ℕ) (vs : List ℕ) (l : ℕ) → l < k → constant_image b k vs (boxed b l) ≡ None
constant_before b k [] l lt = refl
constant_before b k (v ∷ vs) l lt = grind (arith, constant_before b (suc k) vs l (omega arith))

-- the others count from the first
pub constant_at : (b k : ℕ) (vs : List ℕ) (i : ℕ) → constant_image b k vs (boxed b (k + i)) ≡ slice_get vs i
constant_at b k [] i = refl
constant_at b k (v ∷ vs) zero = grind arith
constant_at b k (v ∷ vs) (suc i) = grind (arith, constant_at b (suc k) vs i)
