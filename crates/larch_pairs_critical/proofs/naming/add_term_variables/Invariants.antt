use Rattle.std.proofs.Common.{◌≡◌, drop, fold}
use Rattle.std.specs.List.{flat_map}
use Rattle.larch_term.specs.Variable.{occurrences, with_variable}
use Rattle.larch_pairs_critical.proofs.naming.add_term_variables.Given as goal

-- the variables of the terms that are left, put behind those found, are all
abbrev pub invariant-loop-entry : goal.invariant-loop-entry
invariant-loop-entry l =
    fold with_variable l.found (flat_map (λ e. occurrences e.term) (drop l.entry-index l.entries))
    ≡ fold with_variable l.initial.found (flat_map (λ e. occurrences e.term) l.entries)
