use Rattle.std.proofs.Common.{sym}
use Rattle.larch_verify_pool.proofs.Reading.{node_within, node_read, Read}
use Rattle.larch_verify_pool.proofs.pool.Pool.node.Goals as goal

pub bounds-as_slice-number : goal.bounds-as_slice-number
bounds-as_slice-number c =
    rw c.as_slice.ensures.keys (node_within _ _ c.args.self.now c.args.number c.self.view_is c.requires)

pub returns : goal.returns
returns c =
    let r : Read c.args.self.now c.self.inside.symbols.keys c.args.number c.index-as_slice-number.result =
    node_read _ _ _ _ _ _ c.self.view_is c.self.invariant c.requires
    (rw c.as_slice.ensures.keys at c.index-as_slice-number.is) in
    record { tree = sym r.tree; stands = r.stands_there }
