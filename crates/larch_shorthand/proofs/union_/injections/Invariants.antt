use Rattle.std.proofs.Common.{◌≡◌, take, map}
use Rattle.larch_shorthand.specs.Union.{injection}
use Rattle.larch_shorthand.proofs.union_.injections.Given as goal

-- the operators so far
abbrev pub invariant-loop-field : goal.invariant-loop-field
invariant-loop-field l = l.injections ≡ map (injection l.sort) (take l.field-index l.fields)
