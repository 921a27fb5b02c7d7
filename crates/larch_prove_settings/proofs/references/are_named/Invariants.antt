use Rattle.std.proofs.Common.{◌≡◌, take}
use Rattle.larch_prove_meaning.specs.Steps.{texts}
use Rattle.larch_prove_settings.proofs.references.are_named.Given as goal

-- the sorts so far have these names
abbrev pub invariant-loop-i : goal.invariant-loop-i
invariant-loop-i l = take l.i l.sorts ≡ take l.i (texts l.words)
