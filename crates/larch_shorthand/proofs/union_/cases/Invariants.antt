use Rattle.std.proofs.Common.{◌≡◌, take, map}
use Rattle.larch_shorthand.specs.Union.{case_of}
use Rattle.larch_shorthand.proofs.union_.cases.Given as goal

-- those so far
abbrev pub invariant-loop-field : goal.invariant-loop-field
invariant-loop-field l = l.cases ≡ map (case_of l.sort) (take l.field-index l.fields)
