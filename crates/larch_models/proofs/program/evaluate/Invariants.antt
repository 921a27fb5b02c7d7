use Rattle.std.proofs.Common.{◌≡◌, [], drop}
use Rattle.larch_models.specs.Stacks.{run}
use Rattle.larch_models.proofs.program.evaluate.Given as goal

abbrev pub invariant-loop-instruction : goal.invariant-loop-instruction
invariant-loop-instruction l =
    run (drop l.instruction-index l.program) l.values l.stack.items ≡ run l.program l.values []
