use Rattle.std.proofs.Common.{◌≡◌, ◌++◌, drop}
use Rattle.larch_prove_beginning.specs.Hypotheses.{all_said}
use Rattle.larch_prove_beginning.proofs.hypotheses.said_equations.Given as goal

-- the equations so far, before those of the hypotheses that are left
abbrev pub invariant-loop-index : goal.invariant-loop-index
invariant-loop-index l =
    l.equations.items ++ all_said (drop l.index l.hypotheses) (drop l.index l.lines) ≡ all_said l.hypotheses l.lines
