use Rattle.std.proofs.Common.{◌≡◌, drop, fold}
use Rattle.larch_term.specs.Variable.{occurrences_in, with_variable}
use Rattle.larch_term.specs.Tree.{forest_of}
use Rattle.larch_term.proofs.variable.+add_variables.Given as goal

-- the variables of the terms that are left, put behind those found, are all
abbrev pub invariant-add_all_variables-loop-term : goal.invariant-add_all_variables-loop-term
invariant-add_all_variables-loop-term l =
    fold with_variable l.found (occurrences_in (forest_of (drop l.term-index l.term-items)))
    ≡ fold with_variable l.initial.found (occurrences_in (forest_of l.term-items))
