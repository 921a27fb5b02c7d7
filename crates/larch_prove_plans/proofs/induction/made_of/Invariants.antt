use Rattle.std.proofs.Common.{◌≡◌, map, take}
use Rattle.larch_calculus.specs.Formula.{constant}
use Rattle.larch_prove_plans.proofs.induction.made_of.Given as goal

-- the arguments so far
abbrev pub invariant-loop-operator : goal.invariant-loop-operator
invariant-loop-operator l = l.arguments.items ≡ map constant (take l.operator-index l.constants)
