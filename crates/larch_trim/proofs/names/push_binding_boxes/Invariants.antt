use Rattle.std.proofs.Common.{◌≡◌, ◌++◌, flat_map, take}
use Rattle.larch_trim_meaning.specs.Needed.{boxes_in_binding}
use Rattle.larch_trim.proofs.names.push_binding_boxes.Given as goal

abbrev pub invariant-loop-binding : goal.invariant-loop-binding
invariant-loop-binding l = l.named ≡ l.fn.named ++ flat_map boxes_in_binding (take l.binding-index l.bindings)
