use Rattle.std.proofs.Common.{◌≡◌, ◌++◌}
use Rattle.larch_generate.specs.Generator.{closings}
use Rattle.larch_generate.proofs.writing.append_closings.Given as goal

-- so many stand there
abbrev pub invariant-loop : goal.invariant-loop
invariant-loop l = l.text ≡ l.fn.text ++ closings l.counter
