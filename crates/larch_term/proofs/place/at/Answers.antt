-- Where a variable stands the place leads no further.
use Rattle.std.proofs.Common.{arith, ap, sym, ◌∙◌, drop, ◌<◌, length, length-drop}
use Rattle.larch_term.specs.Place.{at}
use Rattle.larch_term.specs.TermView.{view_node}
use Rattle.larch_term.proofs.TreeLists.{none_below}
use Rattle.larch_term.proofs.place.at.Goals as goal

pub returns-in_default : goal.returns-in_default
returns-in_default c =
    let left = drop c.loop-number.number-index c.args.place.now in
    let some : 0 < length left = simp length-drop (omega arith) in
    none_below c.in_default.field-0 c.in_default.field-1 left some
    ∙ ap (λ t. at t left) (sym (ap view_node c.in_default.is) ∙ c.here.view_is) ∙ c.loop-number.invariant
