-- Different numbers have different trees.
use Rattle.std.proofs.Common.{◌≡◌, ℕ, zero, suc, ◌<◌, ◌⊎◌, inl, inr, Bool, true, List, [], ◌∷◌, length, map, All}
use Rattle.std.proofs.Common.{get_or, refl, sym, ◌∙◌, ap, subst, arith, true≢false}
use Rattle.std.specs.List.{IsDistinct}
use Rattle.std.proofs.lemmas.List.{get_or-map, length-map}
use Rattle.std.proofs.lemmas.List.Elements.{All-head, All-tail}
use Rattle.std.proofs.lemmas.Map.Keys.{apart_from_distinct}
use Rattle.larch_term.specs.Operator.{PlainOperator}
use Rattle.larch_term.specs.Tree.{Tree}
use Rattle.larch_term.proofs.TreeLists.{same_parts}
use Rattle.larch_verify_pool.specs.Pooled.{Pooled, pool_of, name_of, operator_of, no_operator, tree_in, operator_in}
use Rattle.larch_verify_pool.specs.Pooled.{node_tree, trees_behind, StandsBehind, AllStandBehind}
use Rattle.larch_verify_pool.specs.declared.node.PoolNode.{PoolNode}
use Rattle.larch_verify_pool.specs.declared.node.PoolNode.TheVariants.{Var, App}
use Rattle.larch_verify_pool.specs.declared.symbol.PoolSymbol.{PoolSymbol}
use Rattle.larch_verify_pool.specs.declared.symbol.SymbolName.{SymbolName}
use Rattle.larch_verify_pool.specs.declared.symbol.SymbolName.TheVariants.{Plain, Boxed}
use Rattle.larch_verify_pool.specs.contracts.node.PoolNodePartialEq.TheImpl as node_eq
use Rattle.larch_verify_pool.specs.contracts.symbol.PoolSymbolPartialEq.TheImpl as symbol_eq
use Rattle.larch_verify_pool.proofs.Same.{self_node, self_symbol}
use Rattle.larch_verify_pool.proofs.Trees.{tree_behind, stands_at, length_behind}

-- keys of a set at two places that are equal stand at one place
one_place : {K : Type 0} (e : K → K → Bool) → ((x : K) → e x x ≡ true) → (ks : List K) → IsDistinct e ks
    → (i j : ℕ) (d : K) → i < length ks → j < length ks → get_or ks i d ≡ get_or ks j d → i ≡ j
one_place {K} e self ks u i j d li lj same = by (order i j)
  where
    order : (a b : ℕ) → (a < b) ⊎ ((b < a) ⊎ (a ≡ b))
    order zero zero = inr (inr refl)
    order zero (suc b) = inl (omega arith)
    order (suc a) zero = inr (inl (omega arith))
    order (suc a) (suc b) = next (order a b)
      where
        next : (a < b) ⊎ ((b < a) ⊎ (a ≡ b)) → (suc a < suc b) ⊎ ((suc b < suc a) ⊎ (suc a ≡ suc b))
        next (inl p) = inl (omega arith)
        next (inr (inl p)) = inr (inl (omega arith))
        next (inr (inr p)) = inr (inr (ap suc p))

    by : (i < j) ⊎ ((j < i) ⊎ (i ≡ j)) → i ≡ j
    by (inl p) =
        absurd
        (true≢false (sym (self (get_or ks i d)) ∙ ap (e (get_or ks i d)) same ∙ apart_from_distinct e ks i j d u p lj))
    by (inr (inl p)) =
        absurd
        (true≢false (sym (self (get_or ks j d)) ∙ ap (e (get_or ks j d)) (sym same)
        ∙ apart_from_distinct e ks j i d u p li))
    by (inr (inr p)) = p

same_name : (a b : SymbolName) → name_of a ≡ name_of b → a ≡ b
same_name (Plain n) (Plain m) e = let k : n ≡ m = cc in ap Plain k
same_name (Plain n) (Boxed b k) e = absurd cc
same_name (Boxed b k) (Plain m) e = absurd cc
same_name (Boxed b k) (Boxed c l) e = let p : b ≡ c = cc in let q : k ≡ l = cc in λ i. Boxed (p i) (q i)

same_symbol : (x y : PoolSymbol) → operator_of x ≡ operator_of y → x ≡ y
same_symbol x y e =
    let n : x.name ≡ y.name = same_name x.name y.name (ap (λ (f : PlainOperator). f.name) e) in
    λ i. record { name = n i; domain = (e i).domain; range = (e i).range }

-- operators at two numbers that are equal have one number
abbrev pub Apart : List PlainOperator → Type 0
Apart fs = (f g : ℕ) → f < length fs → g < length fs → operator_in fs f ≡ operator_in fs g → f ≡ g

pub operators_apart : (ss : List PoolSymbol) → IsDistinct symbol_eq.ghosts.eq ss → Apart (map operator_of ss)
operators_apart [] u f g lf lg e = absurd (omega arith)
operators_apart (s ∷ ss) u f g lf lg e =
    let xs : List PoolSymbol = s ∷ ss in
    let a : f < length xs = omega (arith, length-map xs operator_of) in
    let b : g < length xs = omega (arith, length-map xs operator_of) in
    one_place symbol_eq.ghosts.eq self_symbol xs u f g s a b
    (same_symbol (get_or xs f s) (get_or xs g s)
    (sym (get_or-map operator_of xs f s no_operator a) ∙ e ∙ get_or-map operator_of xs g s no_operator b))

same_arguments : (ts : List Tree) (k l : ℕ) (cs ds : List ℕ) → All (λ c. c < k) cs → All (λ d. d < l) ds
    → ((c d : ℕ) → c < k → d < l → tree_in ts c ≡ tree_in ts d → c ≡ d)
    → map (tree_in ts) cs ≡ map (tree_in ts) ds → cs ≡ ds
same_arguments ts k l [] [] a b h e = refl
same_arguments ts k l [] (d ∷ ds) a b h e = absurd cc
same_arguments ts k l (c ∷ cs) [] a b h e = absurd cc
same_arguments ts k l (c ∷ cs) (d ∷ ds) a b h e =
    let p : tree_in ts c ≡ tree_in ts d = cc in
    let q : map (tree_in ts) cs ≡ map (tree_in ts) ds = cc in
    let x : c ≡ d = h c d (All-head (λ n. n < k) c cs a) (All-head (λ n. n < l) d ds b) p in
    let y : cs ≡ ds = same_arguments ts k l cs ds (All-tail (λ n. n < k) c cs a) (All-tail (λ n. n < l) d ds b) h q in
    λ i. x i ∷ y i

same_nodes : (fs : List PlainOperator) (ts : List Tree) (k l : ℕ) (x y : PoolNode) → Apart fs
    → StandsBehind (length fs) k x → StandsBehind (length fs) l y
    → ((c d : ℕ) → c < k → d < l → tree_in ts c ≡ tree_in ts d → c ≡ d) → node_tree fs ts x ≡ node_tree fs ts y → x ≡ y
same_nodes fs ts k l (Var n s) (Var m r) p a b h e = let u : n ≡ m = cc in let v : s ≡ r = cc in λ i. Var (u i) (v i)
same_nodes fs ts k l (Var n s) (App g ds) p a b h e = absurd cc
same_nodes fs ts k l (App f cs) (Var m r) p a b h e = absurd cc
same_nodes fs ts k l (App f cs) (App g ds) p a b h e =
    let q = same_parts (operator_in fs f) (operator_in fs g) (map (tree_in ts) cs) (map (tree_in ts) ds) e in
    let u : f ≡ g = p f g a.0 b.0 q.0 in
    let v : cs ≡ ds = same_arguments ts k l cs ds a.1 b.1 h q.1 in
    λ i. App (u i) (v i)

trees_apart_below : (fs : List PlainOperator) (ns : List PoolNode) (m : PoolNode) → Apart fs
    → IsDistinct node_eq.ghosts.eq ns → AllStandBehind (length fs) 0 ns
    → (b i j : ℕ) → i < b → i < length ns → j < length ns
    → tree_in (trees_behind fs [] ns) i ≡ tree_in (trees_behind fs [] ns) j → i ≡ j
trees_apart_below fs ns m p u h zero i j lb li lj e = absurd (omega arith)
trees_apart_below fs ns m p u h (suc b) i j lb li lj e =
    let ts : List Tree = trees_behind fs [] ns in
    let x : PoolNode = get_or ns i m in
    let y : PoolNode = get_or ns j m in
    let a : StandsBehind (length fs) i x =
    subst (λ k. StandsBehind (length fs) k x) (omega arith) (stands_at (length fs) 0 ns i m h li) in
    let c : StandsBehind (length fs) j y =
    subst (λ k. StandsBehind (length fs) k y) (omega arith) (stands_at (length fs) 0 ns j m h lj) in
    let s : x ≡ y =
    same_nodes fs ts i j x y p a c
    (λ v w lv lw. trees_apart_below fs ns m p u h b v w (omega arith) (omega arith) (omega arith))
    (sym (tree_behind (length fs) fs [] ns i m h li) ∙ e ∙ tree_behind (length fs) fs [] ns j m h lj) in
    one_place node_eq.ghosts.eq self_node ns u i j m li lj s

-- trees at two numbers that are equal have one number
abbrev pub TreesApart : Pooled → Type 0
TreesApart p = (i j : ℕ) → i < length p.trees → j < length p.trees → tree_in p.trees i ≡ tree_in p.trees j → i ≡ j

pub trees_apart : (ss : List PoolSymbol) (ns : List PoolNode) (p : Pooled) → pool_of ss ns ≡ p
    → IsDistinct symbol_eq.ghosts.eq ss → IsDistinct node_eq.ghosts.eq ns
    → AllStandBehind (length (map operator_of ss)) 0 ns → TreesApart p
trees_apart ss ns p e u v h =
    subst TreesApart e
    (λ i j li lj s. trees_apart_below (map operator_of ss) ns (Var [] []) (operators_apart ss u) v h (suc i) i j
    (omega arith)
    (omega (arith, length_behind (map operator_of ss) [] ns))
    (omega (arith, length_behind (map operator_of ss) [] ns)) s)
