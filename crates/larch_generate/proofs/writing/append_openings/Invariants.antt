use Rattle.std.proofs.Common.{◌≡◌, ◌++◌}
use Rattle.larch_generate.specs.Generator.{openings}
use Rattle.larch_generate.proofs.writing.append_openings.Given as goal

-- so many stand there
abbrev pub invariant-loop : goal.invariant-loop
invariant-loop l = l.text ≡ l.fn.text ++ openings l.counter
