use Rattle.std.proofs.Common.{◌≡◌, drop, map}
use Rattle.larch_shorthand.specs.Shorthand.{field_twice, twice}
use Rattle.larch_shorthand.proofs.shorthand.field_twice.Given as goal

-- what is left is answered as all fields are
abbrev pub invariant-loop-field : goal.invariant-loop-field
invariant-loop-field l = twice l.names.keys (map (λ f. f.name) (drop l.field-index l.fields)) ≡ field_twice l.fields
