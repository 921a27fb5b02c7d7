use Rattle.std.proofs.Common.{◌≡◌, take, map}
use Rattle.larch_shorthand.proofs.tuple.values.Given as goal

-- the variables so far
abbrev pub invariant-loop-component : goal.invariant-loop-component
invariant-loop-component l = l.values.items ≡ map (λ c. c.value) (take l.component-index l.components)
