use Rattle.std.proofs.Common.{◌≡◌, bytes_eq, take}
use Rattle.std.specs.Prelude.{map}
use Rattle.larch_models.proofs.operation.own_places.Given as goal

abbrev pub invariant-loop-named : goal.invariant-loop-named
invariant-loop-named l = l.own ≡ map (λ r. bytes_eq r l.sort) (take l.named-index l.sorts)
