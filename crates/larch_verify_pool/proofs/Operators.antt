-- What interning an operator leaves.
use Rattle.std.proofs.Common.{◌≡◌, ℕ, Bool, true, false, List, [], ◌∷◌, ◌++◌, length, map, take, slice_get, Some}
use Rattle.std.proofs.Common.{option_map, refl, sym, ◌∙◌, ap, subst, arith, if◌then◌else◌}
use Rattle.std.proofs.lemmas.List.{append-nil, map_push, take_at, length-append}
use Rattle.std.proofs.lemmas.Option.{slice_get-map}
use Rattle.larch_term.specs.Operator.{PlainOperator}
use Rattle.larch_verify_pool.specs.Pooled.{pool_of, operator_of, trees_behind, AreMarked, IsPool, Grows}
use Rattle.larch_verify_pool.specs.declared.node.Marks.{Marks}
use Rattle.larch_verify_pool.specs.declared.node.PoolNode.{PoolNode}
use Rattle.larch_verify_pool.specs.declared.symbol.PoolSymbol.{PoolSymbol}
use Rattle.larch_verify_pool.specs.contracts.symbol.PoolSymbolPartialEq.TheImpl as symbol_eq
use Rattle.larch_verify_pool.proofs.Front.{front_refl}
use Rattle.larch_verify_pool.proofs.Same.{same_symbol_key}
use Rattle.larch_verify_pool.proofs.Trees.{behind_front, stand_later}

-- operators behind those that were there
pub record Behind (ks ls : List PoolSymbol) : Type 0 where
  pub more : List PlainOperator
  pub is : map operator_of ls ≡ map operator_of ks ++ more

behind_by : (ks : List PoolSymbol) (k : PoolSymbol) (b : Bool) → Behind ks (if b then ks else ks ++ k ∷ [])
behind_by ks k true = record { more = []; is = sym (append-nil (map operator_of ks)) }
behind_by ks k false = record { more = operator_of k ∷ []; is = map_push operator_of ks k }

pub behind : (ks ls : List PoolSymbol) (k : PoolSymbol) (b : Bool) → ls ≡ (if b then ks else ks ++ k ∷ [])
    → Behind ks ls
behind ks ls k b e = subst (Behind ks) (sym e) (behind_by ks k b)

pub same_trees : (ks ls : List PoolSymbol) (ns : List PoolNode) (bs : List Marks) → IsPool ks ns bs → Behind ks ls
    → trees_behind (map operator_of ls) [] ns ≡ trees_behind (map operator_of ks) [] ns
same_trees ks ls ns bs h b =
    ap (λ fs. trees_behind fs [] ns) b.is ∙ behind_front 0 (map operator_of ks) b.more [] ns h.0

pub still_pool : (ks ls : List PoolSymbol) (ns : List PoolNode) (bs : List Marks) → IsPool ks ns bs → Behind ks ls
    → IsPool ls ns bs
still_pool ks ls ns bs h b =
    let e = ap length b.is ∙ length-append (map operator_of ks) b.more in (
      stand_later (length (map operator_of ks)) (length (map operator_of ls)) 0 ns (omega (arith, e)) h.0,
      subst (λ ts. AreMarked bs ts) (sym (same_trees ks ls ns bs h b)) h.1,
    )

pub operators_grow : (ks ls : List PoolSymbol) (ns : List PoolNode) (bs : List Marks) → IsPool ks ns bs → Behind ks ls
    → Grows (pool_of ks ns) (pool_of ls ns)
operators_grow ks ls ns bs h b = (
  ap (take (length (map operator_of ks))) b.is ∙ take_at (map operator_of ks) b.more (length (map operator_of ks)) refl,
  ap (take (length (trees_behind (map operator_of ks) [] ns))) (same_trees ks ls ns bs h b)
      ∙ front_refl (trees_behind (map operator_of ks) [] ns),
)

pub operator_found : (ls : List PoolSymbol) (k : PoolSymbol) (i : ℕ)
    → (x : PoolSymbol) × (slice_get ls i ≡ Some x) × (symbol_eq.ghosts.eq k x ≡ true)
    → slice_get (map operator_of ls) i ≡ Some (operator_of k)
operator_found ls k i s =
    slice_get-map operator_of ls i ∙ ap (option_map operator_of) s.1
    ∙ ap (λ x. Some (operator_of x)) (sym (same_symbol_key k s.0 s.2))
