use Rattle.std.proofs.Common.{◌≡◌, ◌++◌}
use Rattle.larch_prove_facts.proofs.entries.variables_of.Given as goal

-- the variables so far are behind the others
abbrev pub invariant-loop-variable : goal.invariant-loop-variable
invariant-loop-variable l = l.found ≡ l.initial.found ++ l.yielded
