use Rattle.std.proofs.Common.{◌≡◌, take, map}
use Rattle.larch_shorthand.specs.Tuple.{setter}
use Rattle.larch_shorthand.proofs.tuple.setters.Given as goal

-- the operators so far
abbrev pub invariant-loop-field : goal.invariant-loop-field
invariant-loop-field l = l.setters ≡ map (setter l.sort) (take l.field-index l.fields)
