use Rattle.std.proofs.Common.{◌≡◌, bytes_eq, drop}
use Rattle.std.specs.List.{find}
use Rattle.larch_prove_facts.proofs.entries.variable_named.Given as goal

-- none so far has the name
abbrev pub invariant-loop-variable : goal.invariant-loop-variable
invariant-loop-variable l =
    find (λ v. bytes_eq v.name l.name) l.variables
    ≡ find (λ v. bytes_eq v.name l.name) (drop l.variable-index l.variables)
