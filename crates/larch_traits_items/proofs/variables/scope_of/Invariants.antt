use Rattle.std.proofs.Common.{◌≡◌, [], drop}
use Rattle.larch_base_meaning.specs.Steps.{all_taken}
use Rattle.larch_traits_items.specs.Variables.{with_declared}
use Rattle.larch_traits_items.proofs.variables.scope_of.Given as goal

-- the variables so far, with those that are left, are all
abbrev pub invariant-loop-variable : goal.invariant-loop-variable
invariant-loop-variable l =
    all_taken with_declared (drop l.variable-index l.variables) l.scope ≡ all_taken with_declared l.variables []
