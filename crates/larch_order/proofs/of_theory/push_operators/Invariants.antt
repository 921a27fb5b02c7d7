use Rattle.std.proofs.Common.{◌≡◌, ◌++◌, take, map}
use Rattle.larch_order.specs.Precedence.{new_rank}
use Rattle.larch_order.proofs.of_theory.push_operators.Given as goal

-- the operators so far
abbrev pub invariant-loop-operator : goal.invariant-loop-operator
invariant-loop-operator l = l.ranks.items ≡ l.initial.ranks.items ++ map new_rank (take l.operator-index l.operators)
