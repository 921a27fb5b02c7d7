use Rattle.std.proofs.Common.{◌≡◌, ◌+◌, ◌++◌, drop}
use Rattle.larch_pairs_critical.specs.Pairs.{number_variables}
use Rattle.larch_pairs_critical.proofs.naming.number_entries.Given as goal

-- the names so far and those that are left are all
abbrev pub invariant-loop-i : goal.invariant-loop-i
invariant-loop-i l = l.entries ++ number_variables (l.i + 1) (drop l.i l.variables) ≡ number_variables 1 l.variables
