use Rattle.std.proofs.Common.{◌<◌, length, arith}
use Rattle.larch_verify_pool.proofs.Reading.{mark_within, mark_read}
use Rattle.larch_verify_pool.proofs.pool.Pool.is_ground.Goals as goal

pub index-requires : goal.index-requires
index-requires c =
    let w : c.args.number < length c.self.inside.marks.items =
    mark_within _ _ _ c.args.self.now c.args.number c.self.view_is c.self.invariant c.requires in
    omega (arith, w, c.self.inside.marks.ok)

pub returns : goal.returns
returns c =
    (mark_read _ _ _ c.args.self.now c.args.number c.index.result.now c.self.view_is c.self.invariant c.requires
    c.index.ensures).1
