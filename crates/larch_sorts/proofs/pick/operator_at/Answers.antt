use Rattle.std.proofs.Common.{◌∙◌, Some, ap, length, sym}
use Rattle.larch_sorts_signature.specs.SortsMeaningSignature.{operators_named, taking_part}
use Rattle.larch_sorts.proofs.Picked.{maker_picked}
use Rattle.larch_sorts.proofs.pick.operator_at.Goals as goal

pub returns-in-Some-One : goal.returns-in-Some-One
returns-in-Some-One c =
    maker_picked (operators_named c.args.name.now (taking_part c.args.signature.now))
    (length c.args.arguments.now) c.args.sort.now c.in-Some-One.operator
    (sym (c.in-Some-One.is ∙ ap Some c.in-Some-One.field-0-is) ∙ c.in_ok-maker_of.ensures)
