use Rattle.std.proofs.Common.{◌≡◌, List, [], length, map, take, sym, subst, arith}
use Rattle.std.proofs.lemmas.List.{take_all}
use Rattle.larch_term.specs.Operator.{PlainOperator}
use Rattle.larch_verify_pool.specs.Pooled.{Pooled, operator_of, node_tree, trees_behind, StandsBehind, Marked}
use Rattle.larch_verify_pool.proofs.Interned.{kept_stand, kept_tells, kept_tree, kept_front}
use Rattle.larch_verify_pool.proofs.Trees.{length_behind}
use Rattle.larch_verify_pool.proofs.pool.Pool.intern.Goals as goal

pub invariant_of-self-2 : goal.invariant_of-self-2
invariant_of-self-2 c =
    let fs : List PlainOperator = map operator_of c.self.inside.symbols.keys in
    let stands : StandsBehind (length fs) (length (trees_behind fs [] c.self.inside.nodes.keys)) c.args.node =
    subst (λ (p : Pooled). StandsBehind (length p.operators) (length p.trees) c.args.node)
    (sym c.self.view_is) c.requires.stands in
    let mark : Marked c.args.mark (node_tree fs (trees_behind fs [] c.self.inside.nodes.keys) c.args.node) =
    subst (λ (p : Pooled). Marked c.args.mark (node_tree p.operators p.trees c.args.node))
    (sym c.self.view_is) c.requires.mark in (
      kept_stand (length fs) _ _ _ _ _ _ _ c.self.invariant.0
          (subst (λ k. StandsBehind (length fs) k c.args.node) (length_behind fs [] c.self.inside.nodes.keys) stands)
          c.in_ok-number.ensures.kept,
      kept_tells fs _ _ _ _ _ _ _ c.self.invariant.1 mark c.in_ok-number.ensures.kept,
    )

pub returns-clause-tree : goal.returns-clause-tree
returns-clause-tree c =
    rw (← c.self.view_is) (kept_tree _ _ _ _ _ _ _ _ _ c.self.invariant.0 c.in_ok-number.ensures.kept)

take_itself : {X : Type 0} (xs : List X) → take (length xs) xs ≡ xs
take_itself xs = take_all (length xs) xs (omega arith)

pub returns-clause-grows : goal.returns-clause-grows
returns-clause-grows c =
    rw (← c.self.view_is) (
      take_itself (map operator_of c.self.inside.symbols.keys),
      kept_front _ _ _ _ _ _ _ _ c.in_ok-number.ensures.kept,
    )
