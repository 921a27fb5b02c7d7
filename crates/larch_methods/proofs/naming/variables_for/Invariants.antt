use Rattle.std.proofs.Common.{◌≡◌, ◌++◌, map, drop}
use Rattle.larch_methods.specs.Inside.{written_variable}
use Rattle.larch_methods.specs.Observers.{variables_for}
use Rattle.larch_methods.proofs.naming.variables_for.Given as goal

-- the variables so far and those of the other constants are all
abbrev pub invariant-loop-constant : goal.invariant-loop-constant
invariant-loop-constant l =
    l.coded ++ map written_variable (variables_for l.next (drop l.constant-index l.constants))
    ≡ map written_variable (variables_for l.letters l.constants)
