use Rattle.std.proofs.Common.{◌∙◌, ap}
use Rattle.std.specs.Prelude.{map}
use Rattle.larch_models_meaning.specs.FiniteModel.{last_among, last_in}
use Rattle.larch_models_meaning.specs.Standard.{standard_last}
use Rattle.larch_models.specs.Tables.{values_for}
use Rattle.larch_models.proofs.Makers.{table_is}
use Rattle.larch_models.proofs.maker.table_of.Goals as goal

pub returns : goal.returns
returns c =
    table_is c.args.model.now c.args.operator.now
    (record { lasts = c.in_ok-lasts.lasts; last = c.last_value-last.result; values = c.values_for-values.result })
    (c.in_ok-lasts.ensures ∙ ap (λ vs. map (standard_last (last_among vs)) c.domain.result.now) c.as_slice-sorts.ensures
    ∙ ap (map (last_in c.args.model.now)) c.domain.ensures)
    (c.last_value-last.ensures ∙ ap (λ vs. standard_last (last_among vs) c.range.result.now) c.as_slice-sorts.ensures
    ∙ ap (last_in c.args.model.now) c.range.ensures)
    (c.values_for-values.ensures ∙ ap (λ ts. values_for ts c.args.operator.now) c.as_slice.ensures)
