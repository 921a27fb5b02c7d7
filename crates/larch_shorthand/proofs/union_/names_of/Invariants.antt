use Rattle.std.proofs.Common.{◌≡◌, take}
use Rattle.larch_shorthand.specs.Union.{names_of}
use Rattle.larch_shorthand.proofs.union_.names_of.Given as goal

-- the names so far
abbrev pub invariant-loop-field : goal.invariant-loop-field
invariant-loop-field l = l.names ≡ names_of (take l.field-index l.fields)
