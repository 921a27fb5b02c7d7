use Rattle.std.proofs.Common.{◌≡◌, map, take}
use Rattle.larch_derive.specs.Builder.{part_for}
use Rattle.larch_derive.proofs.builder.parts_for.Given as goal

-- the parts so far are those of the constants so far
abbrev pub invariant-loop-constant : goal.invariant-loop-constant
invariant-loop-constant l = l.parts ≡ map part_for (take l.constant-index l.constants)
