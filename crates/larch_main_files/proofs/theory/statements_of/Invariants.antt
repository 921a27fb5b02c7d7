use Rattle.std.proofs.Common.{◌≡◌, take}
use Rattle.larch_flat_meaning.specs.Gathered.{statements_in}
use Rattle.larch_main_files.proofs.theory.statements_of.Given as goal

-- the statements so far
abbrev pub invariant-loop-index : goal.invariant-loop-index
invariant-loop-index l = l.statements ≡ statements_in (take l.index l.marked)
