use Rattle.std.proofs.Common.{◌≡◌, ◌++◌}
use Rattle.larch_flat_statements.specs.Marks.{stated_in}
use Rattle.larch_flat_statements.proofs.known.statements_of.Given as goal

-- the statements so far, with those that are left, are all
abbrev pub invariant-loop-key : goal.invariant-loop-key
invariant-loop-key l = l.statements ++ stated_in l.key-iterator ≡ stated_in l.initial.key-iterator
