-- The trees of nodes.
use Rattle.std.proofs.Common.{◌≡◌, ℕ, zero, suc, ◌+◌, ◌<◌, ◌≤◌, List, [], ◌∷◌, ◌++◌, length, map, All, get_or, refl}
use Rattle.std.proofs.Common.{sym, ◌∙◌, ap, subst, arith, append_assoc, append-nil}
use Rattle.std.proofs.lemmas.List.{get_or_append_left, length_push}
use Rattle.std.proofs.lemmas.List.Elements.{All-head, All-tail, All-weaker}
use Rattle.larch_term.specs.Operator.{PlainOperator}
use Rattle.larch_term.specs.Tree.{Tree, app, forest_of}
use Rattle.larch_verify_pool.specs.Pooled.{no_tree, no_operator, tree_in, operator_in, node_tree, trees_behind}
use Rattle.larch_verify_pool.specs.Pooled.{StandsBehind, AllStandBehind}
use Rattle.larch_verify_pool.specs.declared.node.PoolNode.{PoolNode}
use Rattle.larch_verify_pool.specs.declared.node.PoolNode.TheVariants.{Var, App}

pub length_behind : (fs : List PlainOperator) (ts : List Tree) (ns : List PoolNode)
    → length (trees_behind fs ts ns) ≡ length ns
unfolding trees_behind
length_behind fs ts [] = refl
length_behind fs ts (n ∷ ns) = ap suc (length_behind fs (ts ++ node_tree fs ts n ∷ []) ns)

pub behind_append : (fs : List PlainOperator) (ts : List Tree) (ns ms : List PoolNode)
    → trees_behind fs ts (ns ++ ms) ≡ trees_behind fs ts ns ++ trees_behind fs (ts ++ trees_behind fs ts ns) ms
unfolding trees_behind
behind_append fs ts [] ms = ap (λ us. trees_behind fs us ms) (sym (append-nil ts))
behind_append fs ts (n ∷ ns) ms =
    let t : Tree = node_tree fs ts n in
    let us : List Tree = trees_behind fs (ts ++ t ∷ []) ns in
    ap (λ vs. t ∷ vs) (behind_append fs (ts ++ t ∷ []) ns ms
    ∙ ap (λ vs. us ++ trees_behind fs vs ms) (append_assoc ts (t ∷ []) us))

-- one node more
pub tree_pushed : (fs : List PlainOperator) (ns : List PoolNode) (n : PoolNode)
    → trees_behind fs [] (ns ++ n ∷ []) ≡ trees_behind fs [] ns ++ node_tree fs (trees_behind fs [] ns) n ∷ []
unfolding trees_behind
tree_pushed fs ns n = behind_append fs [] ns (n ∷ [])

arguments_front : (ts us : List Tree) (cs : List ℕ) → All (λ c. c < length ts) cs
    → map (tree_in (ts ++ us)) cs ≡ map (tree_in ts) cs
arguments_front ts us [] a = refl
arguments_front ts us (c ∷ cs) a =
    let P : ℕ → Type 0 = λ d. d < length ts in
    λ i. get_or_append_left ts us no_tree c (All-head P c cs a) i ∷ arguments_front ts us cs (All-tail P c cs a) i

-- trees behind those that a node stands on change nothing
pub node_front : (o : ℕ) (fs : List PlainOperator) (ts us : List Tree) (n : PoolNode) → StandsBehind o (length ts) n
    → node_tree fs (ts ++ us) n ≡ node_tree fs ts n
node_front o fs ts us (Var n s) h = refl
node_front o fs ts us (App f cs) h = ap (λ xs. app (operator_in fs f) (forest_of xs)) (arguments_front ts us cs h.1)

-- nor do operators behind those that it has
pub operators_front : (k : ℕ) (fs gs : List PlainOperator) (ts : List Tree) (n : PoolNode)
    → StandsBehind (length fs) k n → node_tree (fs ++ gs) ts n ≡ node_tree fs ts n
operators_front k fs gs ts (Var n s) h = refl
operators_front k fs gs ts (App f cs) h =
    ap (λ g. app g (forest_of (map (tree_in ts) cs))) (get_or_append_left fs gs no_operator f h.0)

pub behind_front : (k : ℕ) (fs gs : List PlainOperator) (ts : List Tree) (ns : List PoolNode)
    → AllStandBehind (length fs) k ns → trees_behind (fs ++ gs) ts ns ≡ trees_behind fs ts ns
unfolding trees_behind AllStandBehind
behind_front k fs gs ts [] h = refl
behind_front k fs gs ts (n ∷ ns) h =
    let e : node_tree (fs ++ gs) ts n ≡ node_tree fs ts n = operators_front k fs gs ts n h.0 in
    ap (λ t. t ∷ trees_behind (fs ++ gs) (ts ++ t ∷ []) ns) e
    ∙ ap (λ us. node_tree fs ts n ∷ us) (behind_front (k + 1) fs gs (ts ++ node_tree fs ts n ∷ []) ns h.1)

-- the tree at a number is that of the node at the number
pub tree_behind : (o : ℕ) (fs : List PlainOperator) (ts : List Tree) (ns : List PoolNode) (i : ℕ) (m : PoolNode)
    → AllStandBehind o (length ts) ns → i < length ns
    → tree_in (trees_behind fs ts ns) i ≡ node_tree fs (ts ++ trees_behind fs ts ns) (get_or ns i m)
unfolding trees_behind AllStandBehind
tree_behind o fs ts [] i m h lt = absurd (omega arith)
tree_behind o fs ts (n ∷ ns) zero m h lt = sym (node_front o fs ts (trees_behind fs ts (n ∷ ns)) n h.0)
tree_behind o fs ts (n ∷ ns) (suc i) m h lt =
    let t : Tree = node_tree fs ts n in
    let s : AllStandBehind o (length (ts ++ t ∷ [])) ns =
    subst (λ k. AllStandBehind o k ns) (sym (length_push ts t)) h.1 in
    tree_behind o fs (ts ++ t ∷ []) ns i m s (omega arith)
    ∙ ap (λ us. node_tree fs us (get_or ns i m)) (append_assoc ts (t ∷ []) (trees_behind fs (ts ++ t ∷ []) ns))

-- one node more stands
pub stand_pushed : (o k : ℕ) (ns : List PoolNode) (n : PoolNode) → AllStandBehind o k ns
    → StandsBehind o (k + length ns) n → AllStandBehind o k (ns ++ n ∷ [])
unfolding AllStandBehind
stand_pushed o k [] n h s = (subst (λ j. StandsBehind o j n) (omega arith) s, tt)
stand_pushed o k (m ∷ ns) n h s =
    (h.0, stand_pushed o (k + 1) ns n h.1 (subst (λ j. StandsBehind o j n) (omega arith) s))

pub stands_later : (o p k l : ℕ) (n : PoolNode) → o ≤ p → k ≤ l → StandsBehind o k n → StandsBehind p l n
stands_later o p k l (Var n s) a b h = tt
stands_later o p k l (App f cs) a b h = (omega arith, All-weaker (λ c. c < k) (λ c. c < l) (λ c lt. omega arith) cs h.1)

-- more operators
pub stand_later : (o p k : ℕ) (ns : List PoolNode) → o ≤ p → AllStandBehind o k ns → AllStandBehind p k ns
unfolding AllStandBehind
stand_later o p k [] a h = tt
stand_later o p k (n ∷ ns) a h = (stands_later o p k k n a (omega arith) h.0, stand_later o p (k + 1) ns a h.1)

-- a node in the list stands
pub stands_at : (o k : ℕ) (ns : List PoolNode) (i : ℕ) (m : PoolNode) → AllStandBehind o k ns → i < length ns
    → StandsBehind o (k + i) (get_or ns i m)
unfolding AllStandBehind
stands_at o k [] i m h lt = absurd (omega arith)
stands_at o k (n ∷ ns) zero m h lt = subst (λ j. StandsBehind o j n) (omega arith) h.0
stands_at o k (n ∷ ns) (suc i) m h lt =
    subst (λ j. StandsBehind o j (get_or ns i m)) (omega arith) (stands_at o (k + 1) ns i m h.1 (omega arith))
