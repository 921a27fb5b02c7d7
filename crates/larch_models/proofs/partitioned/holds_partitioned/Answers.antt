use Rattle.std.proofs.Common.{◌≡◌, [], ◌∷◌, ◌∙◌, ap}
use Rattle.std.specs.Prelude.{map}
use Rattle.larch_models_meaning.specs.Computed.{holds_partitioned}
use Rattle.larch_models_meaning.specs.FiniteModel.{interpretation_of, last_among}
use Rattle.larch_models_meaning.specs.Standard.{standard_last}
use Rattle.larch_models.specs.Every.{all_lists}
use Rattle.larch_models.specs.Clauses.{is_told_apart, plain_operation}
use Rattle.larch_models.proofs.Partitions.{partition_holds}
use Rattle.larch_models.proofs.Rests.{if_ok}
use Rattle.larch_models.proofs.partitioned.holds_partitioned.Goals as goal

pub returns : goal.returns
returns c =
    let n = c.last_value-last.result in
    if_ok (λ answer. answer ≡ all_lists (n ∷ n ∷ []) (is_told_apart (map plain_operation c.as_slice-2.result.now)))
    (λ answer. answer ≡ holds_partitioned (interpretation_of c.args.model.now) c.args.sort.now c.args.operators.now)
    c.tells_apart.result
    (λ answer a.
    partition_holds (interpretation_of c.args.model.now) c.args.sort.now c.args.operators.now
    (map plain_operation c.in_ok-operations.operations) n answer c.in_ok-operations.ensures
    (c.last_value-last.ensures ∙ ap (λ vs. standard_last (last_among vs) c.args.sort.now) c.as_slice.ensures)
    (a ∙ ap (λ os. all_lists (n ∷ n ∷ []) (is_told_apart (map plain_operation os))) c.as_slice-2.ensures))
    c.tells_apart.ensures
