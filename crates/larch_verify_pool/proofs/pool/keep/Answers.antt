use Rattle.std.proofs.Common.{◌≡◌, ℕ, List, [], ◌∷◌, length, Bool, slice_get, Some, true, false, refl, sym, ap, ◌∙◌}
use Rattle.std.proofs.Common.{arith, inl, inr}
use Rattle.std.specs.List.{list_any, position_or_len}
use Rattle.std.proofs.lemmas.Grind.{common_steps}
use Rattle.larch_verify_pool.specs.declared.node.PoolNode.{PoolNode}
use Rattle.larch_verify_pool.specs.contracts.node.PoolNodePartialEq.TheImpl as node_eq
use Rattle.larch_verify_pool.proofs.Same.{same_node}
use Rattle.larch_verify_pool.proofs.pool.keep.Goals.{then-not-is_new, else-not-is_new}
use Rattle.larch_verify_pool.proofs.pool.keep.Goals as goal

found : (ks ls : List PoolNode) (k : PoolNode) (i : ℕ) → ls ≡ ks
    → ((x : PoolNode) × (slice_get ls i ≡ Some x) × (node_eq.ghosts.eq k x ≡ true)) → slice_get ks i ≡ Some k
found ks ls k i e s = ap (λ xs. slice_get xs i) (sym e) ∙ s.1 ∙ ap Some (sym (same_node k s.0 s.2))

behind_all : {X : Type 0} (p : X → Bool) (xs : List X) → list_any p xs ≡ false → position_or_len p xs ≡ length xs
behind_all p [] h = refl
behind_all p (x ∷ xs) h = grind (arith, behind_all p xs)

pub returns-clause-kept : goal.returns-clause-kept
returns-clause-kept c = elim c.if-not-is_new.branch [
  | then-not-is_new w ↦
      let same : c.insert_full.new.self.keys ≡ c.args.nodes.now.keys = grind (arith, common_steps) in
      inr (
        same,
        grind (arith, common_steps),
        found c.args.nodes.now.keys c.insert_full.new.self.keys c.args.node c.in-Ok.place same c.in-Ok.ensures.stored,
      )
  | else-not-is_new w ↦
      inl (
        grind (arith, common_steps),
        grind (arith, common_steps),
        grind (arith, common_steps, behind_all (node_eq.ghosts.eq c.args.node) c.args.nodes.now.keys),
      )
]
