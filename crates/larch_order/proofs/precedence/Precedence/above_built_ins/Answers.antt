-- The height moves behind each built-in operator.
use Rattle.std.proofs.Common.{arith}
use Rattle.larch_term.proofs.BuiltIns.{built_in_told}
use Rattle.larch_order.proofs.BuiltIns.{next_height}
use Rattle.larch_order.proofs.precedence.Precedence.above_built_ins.Goals as goal
use Rattle.larch_order.proofs.precedence.Precedence.above_built_ins.Goals.{then-is_built_in, else-is_built_in}

pub loop-i-preserved : goal.loop-i-preserved
loop-i-preserved c =
    next_height c.args.self.now c.loop-i.i c.loop-i.height c.if-is_built_in.height c.index.result.now
    c.is_built_in.result
    (grind arith) (rw c.self.view_is at c.index.ensures)
    (built_in_told c.index.result.now.operator c.is_built_in.result c.is_built_in.ensures) c.loop-i.invariant
    (elim c.if-is_built_in.branch [
      | then-is_built_in w ↦ rw w.if-is_built_in.true w.height-is
      | else-is_built_in w ↦ rw w.if-is_built_in.false w.height-is
    ])
