use Rattle.std.proofs.Common.{◌∙◌, ◌++◌, ◌∷◌, [], ap, replicate}
use Rattle.larch_flat_sources.proofs.Numbers.{replicate_push}
use Rattle.larch_flat_sources.proofs.building.no_links.Goals as goal

pub loop-number-preserved : goal.loop-number-preserved
loop-number-preserved c =
    c.in_ok-push.ensures.items ∙ ap (λ xs. xs ++ c.new.result ∷ []) c.loop-number.invariant
    ∙ ap (λ x. replicate c.loop-number._number [] ++ x ∷ []) c.new.ensures
    ∙ replicate_push c.loop-number._number []
