-- What interning a node leaves.
use Rattle.std.proofs.Common.{◌≡◌, ℕ, zero, suc, ◌<◌, inl, inr, List, [], ◌∷◌, ◌++◌, length, take, get_or, slice_get}
use Rattle.std.proofs.Common.{Some, refl, sym, ◌∙◌, ap, subst, arith}
use Rattle.std.proofs.lemmas.List.{take_at, take_all, get_or_push, length_push}
use Rattle.std.proofs.lemmas.Option.{slice_get-get_or, slice_get_within, get_or_from_slice_get}
use Rattle.larch_term.specs.Operator.{PlainOperator}
use Rattle.larch_term.specs.Tree.{Tree}
use Rattle.larch_verify_pool.specs.Pooled.{no_tree, tree_in, node_tree, trees_behind, StandsBehind, AllStandBehind}
use Rattle.larch_verify_pool.specs.Pooled.{Marked, AreMarked, Kept}
use Rattle.larch_verify_pool.specs.declared.node.Marks.{Marks}
use Rattle.larch_verify_pool.specs.declared.node.PoolNode.{PoolNode}
use Rattle.larch_verify_pool.proofs.Trees.{length_behind, tree_pushed, stand_pushed, tree_behind}

pub kept_stand : (o : ℕ) (ks : List PoolNode) (bs : List Marks) (k : PoolNode) (b : Marks) (n : ℕ) (ls : List PoolNode)
    (cs : List Marks)
    → AllStandBehind o 0 ks → StandsBehind o (length ks) k → Kept ks bs k b n ls cs → AllStandBehind o 0 ls
kept_stand o ks bs k b n ls cs h s (inl p) =
    subst (AllStandBehind o 0) (sym p.0) (stand_pushed o 0 ks k h (subst (λ j. StandsBehind o j k) (omega arith) s))
kept_stand o ks bs k b n ls cs h s (inr p) = subst (AllStandBehind o 0) (sym p.0) h

kept_trees : (fs : List PlainOperator) (ks : List PoolNode) (k : PoolNode) (ls : List PoolNode) → ls ≡ ks ++ k ∷ []
    → trees_behind fs [] ls ≡ trees_behind fs [] ks ++ node_tree fs (trees_behind fs [] ks) k ∷ []
kept_trees fs ks k ls e = ap (trees_behind fs []) e ∙ tree_pushed fs ks k

tells_push : (bs : List Marks) (ts : List Tree) (b : Marks) (t : Tree) → AreMarked bs ts → Marked b t
    → AreMarked (bs ++ b ∷ []) (ts ++ t ∷ [])
tells_push [] [] b t h w = (w, tt)
tells_push [] (u ∷ us) b t h w = absurd h
tells_push (c ∷ cs) [] b t h w = absurd h
tells_push (c ∷ cs) (u ∷ us) b t h w = (h.0, tells_push cs us b t h.1 w)

pub tells_length : (bs : List Marks) (ts : List Tree) → AreMarked bs ts → length bs ≡ length ts
tells_length [] [] h = refl
tells_length [] (u ∷ us) h = absurd h
tells_length (c ∷ cs) [] h = absurd h
tells_length (c ∷ cs) (u ∷ us) h = ap suc (tells_length cs us h.1)

pub tells_at : (bs : List Marks) (ts : List Tree) (i : ℕ) (d : Marks) → AreMarked bs ts → i < length ts
    → Marked (get_or bs i d) (tree_in ts i)
tells_at [] [] i d h lt = absurd (omega arith)
tells_at [] (u ∷ us) i d h lt = absurd h
tells_at (c ∷ cs) [] i d h lt = absurd h
tells_at (c ∷ cs) (u ∷ us) zero d h lt = h.0
tells_at (c ∷ cs) (u ∷ us) (suc i) d h lt = tells_at cs us i d h.1 (omega arith)

pub kept_tells : (fs : List PlainOperator) (ks : List PoolNode) (bs : List Marks) (k : PoolNode) (b : Marks) (n : ℕ)
    (ls : List PoolNode) (cs : List Marks)
    → AreMarked bs (trees_behind fs [] ks) → Marked b (node_tree fs (trees_behind fs [] ks) k) → Kept ks bs k b n ls cs
    → AreMarked cs (trees_behind fs [] ls)
kept_tells fs ks bs k b n ls cs h w (inl p) =
    let t : Tree = node_tree fs (trees_behind fs [] ks) k in
    subst (λ xs. AreMarked xs (trees_behind fs [] ls)) (sym p.1)
    (subst (AreMarked (bs ++ b ∷ [])) (sym (kept_trees fs ks k ls p.0)) (tells_push bs (trees_behind fs [] ks) b t h w))
kept_tells fs ks bs k b n ls cs h w (inr p) =
    subst (λ xs. AreMarked xs (trees_behind fs [] ls)) (sym p.1)
    (subst (λ xs. AreMarked bs (trees_behind fs [] xs)) (sym p.0) h)

pub kept_tree : (o : ℕ) (fs : List PlainOperator) (ks : List PoolNode) (bs : List Marks) (k : PoolNode) (b : Marks)
    (n : ℕ) (ls : List PoolNode) (cs : List Marks)
    → AllStandBehind o 0 ks → Kept ks bs k b n ls cs
    → slice_get (trees_behind fs [] ls) n ≡ Some (node_tree fs (trees_behind fs [] ks) k)
kept_tree o fs ks bs k b n ls cs h (inl p) =
    let ts : List Tree = trees_behind fs [] ks in
    let t : Tree = node_tree fs ts k in
    let e : length ts ≡ n = length_behind fs [] ks ∙ sym p.2 in
    let lt : n < length (ts ++ t ∷ []) = grind (arith, length_push ts t) in
    subst (λ us. slice_get us n ≡ Some t) (sym (kept_trees fs ks k ls p.0))
    (slice_get-get_or (ts ++ t ∷ []) n t lt ∙ ap Some (get_or_push ts t t n e))
kept_tree o fs ks bs k b n ls cs h (inr p) =
    let ts : List Tree = trees_behind fs [] ks in
    let lt : n < length ks = slice_get_within ks n k p.2 in
    let le : n < length ts = omega (arith, length_behind fs [] ks) in
    subst (λ xs. slice_get (trees_behind fs [] xs) n ≡ Some (node_tree fs ts k)) (sym p.0)
    (slice_get-get_or ts n no_tree le
    ∙ ap Some (tree_behind o fs [] ks n k h lt ∙ ap (node_tree fs ts) (get_or_from_slice_get ks n k k p.2)))

pub kept_front : (fs : List PlainOperator) (ks : List PoolNode) (bs : List Marks) (k : PoolNode) (b : Marks) (n : ℕ)
    (ls : List PoolNode) (cs : List Marks)
    → Kept ks bs k b n ls cs → take (length (trees_behind fs [] ks)) (trees_behind fs [] ls) ≡ trees_behind fs [] ks
kept_front fs ks bs k b n ls cs (inl p) =
    let ts : List Tree = trees_behind fs [] ks in
    ap (take (length ts)) (kept_trees fs ks k ls p.0) ∙ take_at ts (node_tree fs ts k ∷ []) (length ts) refl
kept_front fs ks bs k b n ls cs (inr p) =
    let ts : List Tree = trees_behind fs [] ks in
    ap (λ xs. take (length ts) (trees_behind fs [] xs)) p.0 ∙ take_all (length ts) ts (omega arith)
