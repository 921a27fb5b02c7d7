-- Arguments fit a domain one by one.
use Rattle.std.proofs.Common.{◌≡◌, ℕ, zero, suc, ◌<◌, List, [], ◌∷◌, length, map, get_or, refl, sym, ◌∙◌, ap, arith}
use Rattle.std.proofs.lemmas.List.{length-map}
use Rattle.larch_term.specs.Sorts.{WellSorted, AllWellSorted, sort_of, sorts_of}
use Rattle.larch_term.specs.Tree.{Tree, forest_of}
use Rattle.larch_verify_pool.specs.Pooled.{tree_in}

-- an argument has the sort at its place
abbrev pub SortAt : List Tree → List ℕ → List (List ℕ) → ℕ → Type 0
SortAt ts cs ds k = sort_of (tree_in ts (get_or cs k 0)) ≡ get_or ds k []

-- an argument is well sorted
abbrev pub SortedAt : List Tree → List ℕ → ℕ → Type 0
SortedAt ts cs k = WellSorted (tree_in ts (get_or cs k 0))

pub sorts_all : (ts : List Tree) (cs : List ℕ) (ds : List (List ℕ)) → length cs ≡ length ds
    → ((k : ℕ) → k < length cs → SortAt ts cs ds k) → sorts_of (forest_of (map (tree_in ts) cs)) ≡ ds
sorts_all ts [] [] e h = refl
sorts_all ts [] (d ∷ ds) e h = absurd (omega arith)
sorts_all ts (c ∷ cs) [] e h = absurd (omega arith)
sorts_all ts (c ∷ cs) (d ∷ ds) e h =
    let r : sorts_of (forest_of (map (tree_in ts) cs)) ≡ ds =
    sorts_all ts cs ds (omega arith) (λ k lt. h (suc k) (omega arith)) in
    let f : SortAt ts (c ∷ cs) (d ∷ ds) 0 = h 0 (omega arith) in
    λ i. f i ∷ r i

abbrev rest : List (List ℕ) → List (List ℕ)
rest [] = []
rest (x ∷ xs) = xs

pub sorts_at : (ts : List Tree) (cs : List ℕ) (ds : List (List ℕ)) (k : ℕ) → k < length cs
    → sorts_of (forest_of (map (tree_in ts) cs)) ≡ ds → SortAt ts cs ds k
sorts_at ts [] ds k lt h = absurd (omega arith)
sorts_at ts (c ∷ cs) ds zero lt h = ap (λ xs. get_or xs 0 []) h
sorts_at ts (c ∷ cs) [] (suc k) lt h = absurd cc
sorts_at ts (c ∷ cs) (d ∷ ds) (suc k) lt h = sorts_at ts cs ds k (omega arith) (ap rest h)

sorts_long : (us : List Tree) → length (sorts_of (forest_of us)) ≡ length us
sorts_long [] = refl
sorts_long (u ∷ us) = ap suc (sorts_long us)

pub sorts_length : (ts : List Tree) (cs : List ℕ) (ds : List (List ℕ))
    → sorts_of (forest_of (map (tree_in ts) cs)) ≡ ds → length cs ≡ length ds
sorts_length ts cs ds h = sym (sorts_long (map (tree_in ts) cs) ∙ length-map cs (tree_in ts)) ∙ ap length h

pub sorted_all : (ts : List Tree) (cs : List ℕ) → ((k : ℕ) → k < length cs → SortedAt ts cs k)
    → AllWellSorted (forest_of (map (tree_in ts) cs))
sorted_all ts [] h = tt
sorted_all ts (c ∷ cs) h = (h 0 (omega arith), sorted_all ts cs (λ k lt. h (suc k) (omega arith)))

pub sorted_at : (ts : List Tree) (cs : List ℕ) (k : ℕ) → k < length cs
    → AllWellSorted (forest_of (map (tree_in ts) cs)) → SortedAt ts cs k
sorted_at ts [] k lt h = absurd (omega arith)
sorted_at ts (c ∷ cs) zero lt h = h.0
sorted_at ts (c ∷ cs) (suc k) lt h = sorted_at ts cs k (omega arith) h.1
