use Rattle.std.proofs.Common.{◌≡◌, take, map}
use Rattle.larch_shorthand.proofs.tuple.sorts_of.Given as goal

-- the sorts so far
abbrev pub invariant-loop-field : goal.invariant-loop-field
invariant-loop-field l = l.sorts ≡ map (λ f. f.sort.name) (take l.field-index l.fields)
