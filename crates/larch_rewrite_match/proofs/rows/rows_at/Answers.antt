use Rattle.std.proofs.Common.{◌++◌, ◌∷◌, [], ◌∙◌, ap}
use Rattle.larch_rewrite_match.proofs.RowSteps.{rows_pushed}
use Rattle.larch_rewrite_match.proofs.rows.rows_at.Goals as goal

pub loop-index-preserved : goal.loop-index-preserved
loop-index-preserved c =
    rows_pushed _ _ _ _ c.in_ok-row.row
    (c.in_ok-push.ensures.ok ∙ ap (λ r. c.loop-index.rows ++ r ∷ []) c.in_ok-row-2.ensures) c.loop-index.invariant
    c.in_ok-row.ensures.sides c.in_ok-row.ensures.reason c.in_ok-row.ensures.rule
