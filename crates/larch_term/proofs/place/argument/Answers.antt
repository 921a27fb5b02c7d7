-- The argument with a number stands one place before it in the list.
use Rattle.std.proofs.Common.{arith, ap, sym, ◌∙◌, ◌-◌, slice_get}
use Rattle.larch_term.proofs.TreeLists.{argument_at, got}
use Rattle.larch_term.proofs.place.argument.Goals as goal

pub returns : goal.returns
returns c =
    let i = c.args.number - 1 in
    got c.get.result c.deref.result.now i c.get.ensures.lookup.3
    ∙ ap (λ ts. slice_get ts i) (c.deref.ensures.value ∙ c.arguments.view_is)
    ∙ sym (argument_at c.args.arguments.now c.args.number (omega arith))
