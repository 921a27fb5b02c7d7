use Rattle.larch_verify_pool.proofs.Distinct.{trees_apart}
use Rattle.larch_verify_pool.proofs.pool.Pool.are_apart.Goals as goal

pub returns : goal.returns
returns c =
    trees_apart _ _ c.args.self.now c.self.view_is c.len.ensures.unique c.len-2.ensures.unique c.self.invariant.0
