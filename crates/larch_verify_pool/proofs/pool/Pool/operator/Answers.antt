use Rattle.std.proofs.Common.{◌∙◌, ap}
use Rattle.larch_verify_pool.specs.Pooled.{Pooled}
use Rattle.larch_verify_pool.proofs.Operators.{behind, still_pool, same_trees, operators_grow, operator_found}
use Rattle.larch_verify_pool.proofs.pool.Pool.operator.Goals as goal

pub invariant_of-self-2 : goal.invariant_of-self-2
invariant_of-self-2 c = still_pool _ _ _ _ c.self.invariant (behind _ _ _ _ c.in_ok-index.ensures.keys)

pub returns-clause-number : goal.returns-clause-number
returns-clause-number c =
    operator_found c.insert_full.new.self.keys c.args.symbol c.in_ok-index.index c.in_ok-index.ensures.stored

pub returns-clause-grows : goal.returns-clause-grows
returns-clause-grows c =
    rw (← c.self.view_is) (operators_grow _ _ _ _ c.self.invariant (behind _ _ _ _ c.in_ok-index.ensures.keys))

pub returns-clause-trees : goal.returns-clause-trees
returns-clause-trees c =
    same_trees _ _ _ _ c.self.invariant (behind _ _ _ _ c.in_ok-index.ensures.keys)
    ∙ ap (λ (p : Pooled). p.trees) c.self.view_is
