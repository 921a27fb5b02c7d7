use Rattle.std.proofs.Common.{◌≡◌, ◌≤◌, take}
use Rattle.larch_order.specs.Precedence.{above_built_ins}
use Rattle.larch_order.proofs.precedence.Precedence.above_built_ins.Given as goal

-- the height among the entries so far
abbrev pub invariant-loop-i : goal.invariant-loop-i
invariant-loop-i l = (l.height ≡ above_built_ins (take l.i l.self)) × (l.height ≤ l.i)
