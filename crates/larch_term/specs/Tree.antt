-- Terms as definitions see them: plain trees.
use Rattle.std.specs.Prelude.{◌≡◌, ℕ, ◌+◌, List, [], ◌∷◌, sum_by, refl}
use Rattle.std.proofs.lemmas.List.Recursion.{is_sum_by}
use Rattle.larch_term.specs.Operator.{PlainOperator}

mutual
  -- a term: a variable with its name and sort, or an operator with its arguments
  pub data Tree : Type 0 where
    var : List ℕ → List ℕ → Tree
    app : PlainOperator → Forest → Tree

  -- the arguments of an operator, from left to right
  pub data Forest : Type 0 where
    none : Forest
    more : Tree → Forest → Forest

-- what holds of each argument
abbrev pub AllOf : (Tree → Type 0) → Forest → Type 0
AllOf P none = Unit {0}
AllOf P (more t ts) = P t × AllOf P ts

-- induction on terms: what holds of variables, and of each application where it holds of all its arguments, holds
-- of each term
mutual
  pub tree_induction : (P : Tree → Type 0) → ((n s : List ℕ) → P (var n s))
      → ((f : PlainOperator) (ts : Forest) → AllOf P ts → P (app f ts)) → (t : Tree) → P t
  tree_induction P v a (var n s) = v n s
  tree_induction P v a (app f ts) = a f ts (forest_induction P v a ts)

  pub forest_induction : (P : Tree → Type 0) → ((n s : List ℕ) → P (var n s))
      → ((f : PlainOperator) (ts : Forest) → AllOf P ts → P (app f ts)) → (ts : Forest) → AllOf P ts
  forest_induction P v a none = tt
  forest_induction P v a (more t ts) = (tree_induction P v a t, forest_induction P v a ts)

-- the trees of a list as arguments
abbrev pub forest_of : List Tree → Forest
forest_of [] = none
forest_of (t ∷ ts) = more t (forest_of ts)

-- the arguments as a list
abbrev pub list_of : Forest → List Tree
list_of none = []
list_of (more t ts) = t ∷ list_of ts

abbrev mutual
  -- how many nodes a term has
  pub nodes : Tree → ℕ
  nodes (var n s) = 1
  nodes (app f ts) = 1 + nodes_all ts

  -- how many nodes the arguments have together
  pub nodes_all : Forest → ℕ
  nodes_all none = 0
  nodes_all (more t ts) = nodes t + nodes_all ts

pub nodes_all_is_sum : (ts : List Tree) → nodes_all (forest_of ts) ≡ sum_by nodes ts
nodes_all_is_sum ts = is_sum_by (λ us. nodes_all (forest_of us)) nodes refl (λ _ _. refl) ts
