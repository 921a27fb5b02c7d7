-- What the tables tell of a number, in the words of contracts.
use Rattle.std.proofs.Common.{◌≡◌, ℕ, ◌<◌, List, [], length, map, get_or, sym, ◌∙◌, ap, subst, arith}
use Rattle.std.proofs.lemmas.List.{length-map, get_or-map}
use Rattle.larch_verify_pool.specs.Pooled.{Pooled, pool_of, operator_of, no_operator, operator_in, tree_in, node_tree}
use Rattle.larch_verify_pool.specs.Pooled.{trees_behind, StandsBehind, Marked, IsPool}
use Rattle.larch_verify_pool.specs.declared.node.Marks.{Marks}
use Rattle.larch_verify_pool.specs.declared.node.PoolNode.{PoolNode}
use Rattle.larch_verify_pool.specs.declared.symbol.PoolSymbol.{PoolSymbol}
use Rattle.larch_verify_pool.proofs.Interned.{tells_at, tells_length}
use Rattle.larch_verify_pool.proofs.Trees.{length_behind, tree_behind, stands_at}

pub node_within : (ss : List PoolSymbol) (ns : List PoolNode) (p : Pooled) (i : ℕ) → pool_of ss ns ≡ p
    → i < length p.trees → i < length ns
node_within ss ns p i e lt =
    let l : i < length (trees_behind (map operator_of ss) [] ns) =
    subst (λ (q : Pooled). i < length q.trees) (sym e) lt in
    omega (arith, length_behind (map operator_of ss) [] ns)

-- what stands at a number
pub record Read (p : Pooled) (ss : List PoolSymbol) (i : ℕ) (m : PoolNode) : Type 0 where
  pub tree : tree_in p.trees i ≡ node_tree p.operators p.trees m
  pub stands : StandsBehind (length ss) i m
  pub stands_there : StandsBehind (length p.operators) i m

pub node_read : (ss : List PoolSymbol) (ns : List PoolNode) (bs : List Marks) (p : Pooled) (i : ℕ) (m : PoolNode)
    → pool_of ss ns ≡ p → IsPool ss ns bs → i < length p.trees → m ≡ get_or ns i m → Read p ss i m
node_read ss ns bs p i m e h lt is =
    let w : i < length ns = node_within ss ns p i e lt in
    let a : tree_in (pool_of ss ns).trees i ≡ node_tree (pool_of ss ns).operators (pool_of ss ns).trees m =
    tree_behind (length (map operator_of ss)) (map operator_of ss) [] ns i m h.0 w
    ∙ ap (node_tree (pool_of ss ns).operators (pool_of ss ns).trees) (sym is) in
    let b : StandsBehind (length (map operator_of ss)) i (get_or ns i m) =
    subst (λ k. StandsBehind (length (map operator_of ss)) k (get_or ns i m)) (omega arith)
    (stands_at (length (map operator_of ss)) 0 ns i m h.0 w) in
    record {
      tree = subst (λ (q : Pooled). tree_in q.trees i ≡ node_tree q.operators q.trees m) e a;
      stands_there =
          subst (λ (q : Pooled). StandsBehind (length q.operators) i m) e
          (subst (StandsBehind (length (map operator_of ss)) i) (sym is) b);
      stands =
          subst (λ n. StandsBehind n i m) (length-map ss operator_of)
          (subst (StandsBehind (length (map operator_of ss)) i) (sym is) b);
    }

pub mark_within : (ss : List PoolSymbol) (ns : List PoolNode) (bs : List Marks) (p : Pooled) (i : ℕ) → pool_of ss ns ≡ p
    → IsPool ss ns bs → i < length p.trees → i < length bs
mark_within ss ns bs p i e h lt =
    let l : i < length (trees_behind (map operator_of ss) [] ns) =
    subst (λ (q : Pooled). i < length q.trees) (sym e) lt in
    omega (arith, tells_length bs (trees_behind (map operator_of ss) [] ns) h.1)

pub mark_read : (ss : List PoolSymbol) (ns : List PoolNode) (bs : List Marks) (p : Pooled) (i : ℕ) (b : Marks)
    → pool_of ss ns ≡ p → IsPool ss ns bs → i < length p.trees → b ≡ get_or bs i b → Marked b (tree_in p.trees i)
mark_read ss ns bs p i b e h lt is =
    let l : i < length (trees_behind (map operator_of ss) [] ns) =
    subst (λ (q : Pooled). i < length q.trees) (sym e) lt in
    let a : Marked (get_or bs i b) (tree_in (pool_of ss ns).trees i) =
    tells_at bs (trees_behind (map operator_of ss) [] ns) i b h.1 l in
    subst (λ (q : Pooled). Marked b (tree_in q.trees i)) e
    (subst (λ c. Marked c (tree_in (pool_of ss ns).trees i)) (sym is) a)

-- the operator at a number is that of the symbol at the number
pub operator_read : (ss : List PoolSymbol) (ns : List PoolNode) (p : Pooled) (f : ℕ) (s : PoolSymbol)
    → pool_of ss ns ≡ p → f < length ss → s ≡ get_or ss f s → operator_in p.operators f ≡ operator_of s
operator_read ss ns p f s e lt is =
    subst (λ (q : Pooled). operator_in q.operators f ≡ operator_of s) e
    (get_or-map operator_of ss f s no_operator lt ∙ ap operator_of (sym is))
