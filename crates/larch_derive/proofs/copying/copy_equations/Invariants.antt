use Rattle.std.proofs.Common.{◌≡◌, take}
use Rattle.larch_derive.proofs.copying.copy_equations.Given as goal

-- the equations so far are copied
abbrev pub invariant-loop-equation : goal.invariant-loop-equation
invariant-loop-equation l = l.copied ≡ take l.equation-index l.equations
