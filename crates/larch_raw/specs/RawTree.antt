-- Terms as they are written, for definitions: plain trees.
use Rattle.std.specs.Prelude.{◌≡◌, ℕ, ◌+◌, List, [], ◌∷◌, sum_by, refl}
use Rattle.std.proofs.lemmas.List.Recursion.{is_sum_by}
use Rattle.larch_base.specs.declared.position.Pos.{Pos}
use Rattle.larch_raw.specs.declared.declared.RawWord.{RawWord}

mutual
  -- a canonical name with its arguments, or a term with the sort that it is said to have; and the position of its
  -- head token
  pub data RawTree : Type 0 where
    apply : List ℕ → RawForest → Pos → RawTree
    qualified : RawTree → RawWord → Pos → RawTree

  -- the arguments of an application, from left to right
  pub data RawForest : Type 0 where
    no_more : RawForest
    one_more : RawTree → RawForest → RawForest

-- the trees of a list as arguments
abbrev pub raw_forest : List RawTree → RawForest
raw_forest [] = no_more
raw_forest (t ∷ ts) = one_more t (raw_forest ts)

-- the arguments as a list
abbrev pub raw_list : RawForest → List RawTree
raw_list no_more = []
raw_list (one_more t ts) = t ∷ raw_list ts

abbrev mutual
  -- how many nodes a term has
  pub raw_nodes : RawTree → ℕ
  raw_nodes (apply n ts p) = 1 + raw_nodes_all ts
  raw_nodes (qualified t w p) = 1 + raw_nodes t

  -- how many nodes the arguments have together
  pub raw_nodes_all : RawForest → ℕ
  raw_nodes_all no_more = 0
  raw_nodes_all (one_more t ts) = raw_nodes t + raw_nodes_all ts

pub raw_nodes_all_is_sum : (ts : List RawTree) → raw_nodes_all (raw_forest ts) ≡ sum_by raw_nodes ts
raw_nodes_all_is_sum ts = is_sum_by (λ us. raw_nodes_all (raw_forest us)) raw_nodes refl (λ _ _. refl) ts
