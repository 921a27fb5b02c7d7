use Rattle.std.specs.Prelude.{◌≡◌, take}
use Rattle.larch_complete.proofs.equations.queue_of.Given as goal

abbrev pub invariant-loop-equation : goal.invariant-loop-equation
invariant-loop-equation l = l.queue.items ≡ take l.equation-index l.equations
