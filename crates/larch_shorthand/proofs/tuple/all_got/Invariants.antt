use Rattle.std.proofs.Common.{◌≡◌, take, map}
use Rattle.larch_shorthand.specs.Tuple.{is_got}
use Rattle.larch_shorthand.proofs.tuple.all_got.Given as goal

-- the statements so far
abbrev pub invariant-loop-component : goal.invariant-loop-component
invariant-loop-component l = l.statements ≡ map (is_got l.whole) (take l.component-index l.components)
