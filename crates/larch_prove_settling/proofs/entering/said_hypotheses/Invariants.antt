use Rattle.std.proofs.Common.{◌≡◌, map, take}
use Rattle.larch_prove_settling.specs.Entered.{equation_of}
use Rattle.larch_prove_settling.proofs.entering.said_hypotheses.Given as goal

-- the equations so far
abbrev pub invariant-loop-i : goal.invariant-loop-i
invariant-loop-i l = record {
  equations : map equation_of l.equations.items ≡ take l.i l.hypotheses;
  lines : map (λ e. e.line) l.equations.items ≡ take l.i l.lines;
}
