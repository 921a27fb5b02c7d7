use Rattle.std.proofs.Common.{◌∙◌, ap, bytes_eq}
use Rattle.std.specs.Prelude.{map}
use Rattle.larch_models_meaning.specs.FiniteModel.{interpretation_of, last_among, last_in}
use Rattle.larch_models_meaning.specs.Standard.{standard_last}
use Rattle.larch_models.proofs.Operations.{operation_is}
use Rattle.larch_models.proofs.operation.operation_of.Goals as goal

pub returns : goal.returns
returns c =
    operation_is (interpretation_of c.args.model.now) c.args.sort.now c.args.operator.now
    (record { maker = c.in_ok-maker.maker; lasts = c.in_ok-lasts.lasts; own = c.in_ok-own.own })
    (c.in_ok-lasts.ensures ∙ ap (λ vs. map (standard_last (last_among vs)) c.domain.result.now) c.as_slice.ensures
    ∙ ap (map (last_in c.args.model.now)) c.domain.ensures)
    (c.in_ok-own.ensures ∙ ap (map (λ r. bytes_eq r c.args.sort.now)) c.domain-2.ensures)
    c.in_ok-maker.ensures
