-- Arguments have no variables where each of them has none.
use Rattle.std.proofs.Common.{◌≡◌, ℕ, zero, suc, ◌<◌, List, [], ◌∷◌, ◌++◌, map, length, get_or, refl, ap₂, arith}
use Rattle.larch_term.specs.Tree.{Tree, forest_of}
use Rattle.larch_term.specs.Variable.{occurrences, occurrences_in}
use Rattle.larch_verify_pool.specs.Pooled.{tree_in}

-- an argument has no variables
abbrev pub GroundAt : List Tree → List ℕ → ℕ → Type 0
GroundAt ts cs k = occurrences (tree_in ts (get_or cs k 0)) ≡ []

both_empty : {X : Type 0} (xs ys : List X) → xs ++ ys ≡ [] → (xs ≡ []) × (ys ≡ [])
both_empty [] ys e = (refl, e)
both_empty (x ∷ xs) ys e = absurd cc

pub ground_all : (ts : List Tree) (cs : List ℕ) → ((k : ℕ) → k < length cs → GroundAt ts cs k)
    → occurrences_in (forest_of (map (tree_in ts) cs)) ≡ []
ground_all ts [] h = refl
ground_all ts (c ∷ cs) h =
    ap₂ (λ xs ys. xs ++ ys) (h 0 (omega arith)) (ground_all ts cs (λ k lt. h (suc k) (omega arith)))

pub ground_at : (ts : List Tree) (cs : List ℕ) (k : ℕ) → k < length cs
    → occurrences_in (forest_of (map (tree_in ts) cs)) ≡ [] → GroundAt ts cs k
ground_at ts [] k lt h = absurd (omega arith)
ground_at ts (c ∷ cs) zero lt h =
    (both_empty (occurrences (tree_in ts c)) (occurrences_in (forest_of (map (tree_in ts) cs))) h).0
ground_at ts (c ∷ cs) (suc k) lt h =
    ground_at ts cs k (omega arith)
    (both_empty (occurrences (tree_in ts c)) (occurrences_in (forest_of (map (tree_in ts) cs))) h).1
