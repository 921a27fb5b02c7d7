use Rattle.std.proofs.Common.{◌≡◌, ◌+◌, drop}
use Rattle.larch_derive.specs.OpenBox.{place_from}
use Rattle.larch_derive.proofs.open_box.place_in.Given as goal

-- the operator isn't among those so far
abbrev pub invariant-loop-candidate : goal.invariant-loop-candidate
invariant-loop-candidate l =
    (place_from l.place (drop l.candidate-index l.operators) l.operator ≡ place_from 1 l.operators l.operator)
    × (l.place ≡ 1 + l.candidate-index)
