use Rattle.std.proofs.Common.{take}
use Rattle.larch_verify_pool.specs.Substitution.{AreBindings}
use Rattle.larch_verify_pool.proofs.substitution.are_bindings.Given as goal

abbrev pub invariant-loop-binding : goal.invariant-loop-binding
invariant-loop-binding l = AreBindings l.pool.trees (take l.binding-index l.by)
