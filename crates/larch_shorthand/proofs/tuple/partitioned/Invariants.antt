use Rattle.std.proofs.Common.{◌≡◌, take, map}
use Rattle.larch_shorthand.proofs.tuple.partitioned.Given as goal

-- the operators so far
abbrev pub invariant-loop-component : goal.invariant-loop-component
invariant-loop-component l = l.observers ≡ map (λ c. c.getter) (take l.component-index l.components)
