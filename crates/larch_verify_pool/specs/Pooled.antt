-- A pool as contracts see it: its operators and the trees of its nodes.
use Rattle.std.specs.Prelude.{◌≡◌, ◌↔◌, ℕ, ◌<◌, ◌+◌, ◌⊎◌, IsTrue, List, [], ◌∷◌, ◌++◌, length, map, take, All}
use Rattle.std.specs.Prelude.{slice_get, Some}
use Rattle.std.specs.List.{slice_index_or, AllZip}
use Rattle.larch_term.specs.Operator.{OperatorName, PlainOperator, plain, boxed}
use Rattle.larch_term.specs.Sorts.{WellSorted}
use Rattle.larch_term.specs.Tree.{Tree, var, app, forest_of}
use Rattle.larch_term.specs.Variable.{occurrences}
use Rattle.larch_verify_pool.specs.declared.node.Marks.{Marks}
use Rattle.larch_verify_pool.specs.declared.node.PoolNode.{PoolNode}
use Rattle.larch_verify_pool.specs.declared.node.PoolNode.TheVariants.{Var, App}
use Rattle.larch_verify_pool.specs.declared.symbol.PoolSymbol.{PoolSymbol}
use Rattle.larch_verify_pool.specs.declared.symbol.SymbolName.{SymbolName}
use Rattle.larch_verify_pool.specs.declared.symbol.SymbolName.TheVariants.{Plain, Boxed}

-- the operators of a pool and the trees of its nodes, in the order of their numbers
pub record Pooled : Type 0 where
  pub operators : List PlainOperator
  pub trees : List Tree

-- the name of an operator
abbrev pub name_of : SymbolName → OperatorName
name_of (Plain n) = plain n
name_of (Boxed b k) = boxed b k

-- the operator
abbrev pub operator_of : PoolSymbol → PlainOperator
operator_of s = record { name = name_of s.name; domain = s.domain; range = s.range }

-- what a number beyond the last one stands for
abbrev pub no_tree : Tree
no_tree = var [] []

-- likewise of an operator
abbrev pub no_operator : PlainOperator
no_operator = record { name = plain []; domain = []; range = [] }

-- the tree with a number
abbrev pub tree_in : List Tree → ℕ → Tree
tree_in ts n = slice_index_or ts n no_tree

-- the operator with a number
abbrev pub operator_in : List PlainOperator → ℕ → PlainOperator
operator_in fs n = slice_index_or fs n no_operator

-- the tree of a node over operators and the trees before it
abbrev pub node_tree : List PlainOperator → List Tree → PoolNode → Tree
node_tree fs ts (Var n s) = var n s
node_tree fs ts (App f cs) = app (operator_in fs f) (forest_of (map (tree_in ts) cs))

-- the trees of nodes that stand behind trees
unfoldable pub trees_behind : List PlainOperator → List Tree → List PoolNode → List Tree
trees_behind fs ts [] = []
trees_behind fs ts (n ∷ ns) = node_tree fs ts n ∷ trees_behind fs (ts ++ node_tree fs ts n ∷ []) ns

-- what contracts see of the tables
abbrev pub pool_of : List PoolSymbol → List PoolNode → Pooled
pool_of ss ns = record { operators = map operator_of ss; trees = trees_behind (map operator_of ss) [] ns }

-- a node has an operator and arguments before it
abbrev pub StandsBehind : ℕ → ℕ → PoolNode → Type 0
StandsBehind o k (Var n s) = Unit {0}
StandsBehind o k (App f cs) = (f < o) × All (λ c. c < k) cs

-- each node stands on what is before it
unfoldable pub AllStandBehind : ℕ → ℕ → List PoolNode → Type 0
AllStandBehind o k [] = Unit {0}
AllStandBehind o k (n ∷ ns) = StandsBehind o k n × AllStandBehind o (k + 1) ns

-- marks tell of a tree whether it is well sorted and whether it has no variables
abbrev pub Marked : Marks → Tree → Type 0
Marked m t = (IsTrue m.is_well_sorted ↔ WellSorted t) × (IsTrue m.is_ground ↔ (occurrences t ≡ []))

-- the marks beside the nodes tell of each tree
abbrev pub AreMarked : List Marks → List Tree → Type 0
AreMarked ms ts = AllZip Marked ms ts

-- a pool keeps its operators and trees under their numbers
abbrev pub Grows : Pooled → Pooled → Type 0
Grows p q = (take (length p.operators) q.operators ≡ p.operators) × (take (length p.trees) q.trees ≡ p.trees)

-- a number stands for a tree
abbrev pub HasTree : Pooled → ℕ → Tree → Type 0
HasTree p n t = slice_get p.trees n ≡ Some t

-- a node is put behind others with its marks, or stands there already
abbrev pub Kept : List PoolNode → List Marks → PoolNode → Marks → ℕ → List PoolNode → List Marks → Type 0
Kept ks bs k b n ls cs =
    ((ls ≡ ks ++ k ∷ []) × (cs ≡ bs ++ b ∷ []) × (n ≡ length ks))
    ⊎ ((ls ≡ ks) × (cs ≡ bs) × (slice_get ks n ≡ Some k))

-- what holds of a pool's tables
abbrev pub IsPool : List PoolSymbol → List PoolNode → List Marks → Type 0
IsPool ss ns bs =
    AllStandBehind (length (map operator_of ss)) 0 ns × AreMarked bs (trees_behind (map operator_of ss) [] ns)
