use Rattle.std.proofs.Common.{◌≡◌, ◌∷◌, [], ◌++◌, ◌∙◌, ap}
use Rattle.std.specs.Prelude.{map}
use Rattle.larch_models.specs.Every.{all_lists}
use Rattle.larch_models.specs.Clauses.{is_told_apart, plain_operation}
use Rattle.larch_models.proofs.Rests.{if_ok}
use Rattle.larch_models.proofs.partitioned.tells_apart.Goals as goal

pub returns : goal.returns
returns c =
    let os = map plain_operation c.args.operations.now in
    let n = c.args.last in
    if_ok (λ answer. answer ≡ all_lists (n ∷ n ∷ []) (λ vs. is_told_apart os (c.new-values.result.items ++ vs)))
    (λ answer. answer ≡ all_lists (n ∷ n ∷ []) (is_told_apart os)) c.every_list.result
    (λ answer e. e ∙ ap (λ us. all_lists (n ∷ n ∷ []) (λ vs. is_told_apart os (us ++ vs))) c.new-values.ensures.items)
    c.every_list.ensures.answer
