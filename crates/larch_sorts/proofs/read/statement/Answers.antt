use Rattle.std.proofs.Common.{◌∙◌, Ok, sym, ap}
use Rattle.larch_sorts.proofs.OnlyReadings.{sides_answered}
use Rattle.larch_sorts_signature.proofs.SortsMeaningReadAnswers.{equation_unknown}
use Rattle.larch_sorts.proofs.read.statement.Goals as goal

pub returns-in-Some : goal.returns-in-Some
returns-in-Some c =
    equation_unknown c.args.signature.now c.args.scope.now c.args.raw.now c.in-Some.pos
    (sym c.unknown_sort.ensures ∙ c.in-Some.is)

pub returns-in_ok-statement-in-Some-2 : goal.returns-in_ok-statement-in-Some-2
returns-in_ok-statement-in-Some-2 c =
    sides_answered c.args.signature.now c.args.scope.now c.args.raw.now c.in_ok-sides.field-0 c.in-Some-2.sides
    (sym c.unknown_sort.ensures ∙ c.in_default.is) c.in_ok-sides.ensures c.in-Some-2.is
    ∙ ap Ok (sym c.in_ok-statement-in-Some-2.ensures)
