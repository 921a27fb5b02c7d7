use Rattle.std.proofs.Common.{Some, None, ◌∙◌, sym, ap}
use Rattle.larch_models_meaning.specs.FiniteModel.{last_among}
use Rattle.larch_models_meaning.specs.ModelText.{words_of}
use Rattle.larch_models_meaning.specs.Standard.{standard_last}
use Rattle.larch_models.proofs.TableWords.{table_said}
use Rattle.larch_models.proofs.table_line.table_with.Goals as goal

pub returns-in-Some : goal.returns-in-Some
returns-in-Some c =
    c.table_of.ensures
    ∙ table_said (standard_last (last_among c.args.sorts.now)) c.args.operator.now c.in_ok-operator.operator
    c.last_value-last.result (words_of c.args.text.now) (Some c.in-Some.values) c.in_ok-operator.ensures
    (c.last_value-last.ensures ∙ ap (standard_last (last_among c.args.sorts.now)) c.range.ensures)
    (sym c.in-Some.is ∙ c.in_ok-values.ensures)

pub returns-in-None : goal.returns-in-None
returns-in-None c =
    table_said (standard_last (last_among c.args.sorts.now)) c.args.operator.now c.in_ok-operator.operator
    c.last_value-last.result (words_of c.args.text.now) None c.in_ok-operator.ensures
    (c.last_value-last.ensures ∙ ap (standard_last (last_among c.args.sorts.now)) c.range.ensures)
    (sym c.in-None.is ∙ c.in_ok-values.ensures)
