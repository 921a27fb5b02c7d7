use Rattle.std.proofs.Common.{◌≡◌, drop}
use Rattle.larch_derive.specs.OpenBox.{constant_of}
use Rattle.larch_derive.proofs.open_box.constant_of.Given as goal

-- the operator is no constant of the boxes so far
abbrev pub invariant-loop-open_box : goal.invariant-loop-open_box
invariant-loop-open_box l = constant_of (drop l.open_box-index l.boxes) l.operator ≡ constant_of l.boxes l.operator
