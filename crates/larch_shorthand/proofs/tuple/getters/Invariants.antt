use Rattle.std.proofs.Common.{◌≡◌, take, map}
use Rattle.larch_shorthand.specs.Tuple.{getter}
use Rattle.larch_shorthand.proofs.tuple.getters.Given as goal

-- the operators so far
abbrev pub invariant-loop-field : goal.invariant-loop-field
invariant-loop-field l = l.getters ≡ map (getter l.sort) (take l.field-index l.fields)
