use Rattle.std.proofs.Common.{sym, ◌∙◌}
use Rattle.larch_models.proofs.ModelLines.{begins}
use Rattle.larch_models.proofs.model_text.first_sort.Goals as goal

pub returns-in-Some-2-clause-some : goal.returns-in-Some-2-clause-some
returns-in-Some-2-clause-some c =
    begins c.args.known.now c.args.sorts.now c.args.text.now c.in-Some.line.now c.in-Some.rest.now c.in-Some-2.values
    c.in-Some.ensures.some (sym c.in-Some-2.is ∙ c.in_ok-values.ensures)
