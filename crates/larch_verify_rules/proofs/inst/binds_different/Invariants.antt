use Rattle.std.proofs.Common.{◌≡◌, map, take}
use Rattle.larch_verify_rules.proofs.inst.binds_different.Given as goal

abbrev pub invariant-loop-binding : goal.invariant-loop-binding
invariant-loop-binding l = l.variables.items ≡ map (λ b. b.variable) (take l.binding-index l.by)
