use Rattle.std.proofs.Common.{take}
use Rattle.larch_derive.specs.Coding.{AreCodesOfEquations}
use Rattle.larch_derive.proofs.coding.code_equations.Given as goal

-- the equations so far are written
abbrev pub invariant-loop-statement : goal.invariant-loop-statement
invariant-loop-statement l =
    AreCodesOfEquations l.boxes l.theory.operators (take l.statement-index l.statements) l.equations
