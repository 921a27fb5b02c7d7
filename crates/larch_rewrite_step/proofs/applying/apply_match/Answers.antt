use Rattle.std.proofs.Common.{subst, ◌∙◌}
use Rattle.std.proofs.lemmas.Result.{err_from_is_err_and}
use Rattle.larch_derive.proofs.Growth.{extends_same, extends_trans}
use Rattle.larch_derive_lines.specs.Rules.{AreWritten}
use Rattle.larch_rewrite_match.specs.Bound.{entries_of}
use Rattle.larch_rewrite_step.proofs.Applications.{by_tried, applied_says, applied_extends, right_same}
use Rattle.larch_rewrite_step.proofs.RightSides.{same_right, store_refuses}
use Rattle.larch_rewrite_step.proofs.Written.{written_stays}
use Rattle.larch_rewrite_step.proofs.applying.apply_match.Goals as goal

pub returns-in_err-term-clause-refused : goal.returns-in_err-term-clause-refused
returns-in_err-term-clause-refused c =
    let p = err_from_is_err_and c.from_residual.result c.from_residual.ensures.1 in
    rw (p.1, p.2)
    (store_refuses _ _ _ (same_right _ _ _ _ c.as_slice-bound.ensures c.right.ensures) c.in_err-term.ensures.refused)

pub returns-clause-term : goal.returns-clause-term
returns-clause-term c = c.in_ok-term.ensures.term ∙ same_right _ _ _ _ c.as_slice-bound.ensures c.right.ensures

pub returns-in_err-tried-clause-extends : goal.returns-in_err-tried-clause-extends
returns-in_err-tried-clause-extends c t k r h d =
    by_tried _ c.args.found.now.rule.now c.args.found.now.exchanged t (entries_of c.args.found.now.by) _ k r h
    (λ x st rh i p. c.in_err-tried.ensures.extends x st rh i p)

pub returns-in_err-line-clause-extends : goal.returns-in_err-line-clause-extends
returns-in_err-line-clause-extends c t k r h d =
    extends_trans _ _ _ (by_tried _ c.args.found.now.rule.now c.args.found.now.exchanged t
    (entries_of c.args.found.now.by) _
    k r h (λ x st rh i p. c.in_ok-tried.ensures.extends x st rh i p))
    (extends_same _ _ c.in_err-line.ensures.err)

pub returns-clause-says : goal.returns-clause-says
returns-clause-says c t k r h d =
    let w : AreWritten c.args.builder.now (entries_of c.args.found.now.by) c.in_ok-by.by =
    subst (λ bs. AreWritten c.args.builder.now (entries_of bs) c.in_ok-by.by) c.as_slice-bound.ensures
    (c.in_ok-by.ensures.written d) in
    let x = by_tried _ c.args.found.now.rule.now c.args.found.now.exchanged t (entries_of c.args.found.now.by) _ k r h
    (λ x st rh i p. c.in_ok-tried.ensures.extends x st rh i p) in
    right_same _ _ t _ _ (c.in_ok-term.ensures.term ∙ same_right _ _ _ _ c.as_slice-bound.ensures c.right.ensures)
    (applied_says _ _ _ c.args.found.now.rule.now c.args.found.now.exchanged t
    (entries_of c.args.found.now.by) _ _ k r h x
    (λ x st rh i p. c.in_ok-tried.ensures.says x st rh i p)
    (λ l r h j e. c.in_ok-line.ensures.says _ l r (written_stays _ _ _ _ x w) h j e))

pub returns-clause-extends : goal.returns-clause-extends
returns-clause-extends c t k r h d =
    let w : AreWritten c.args.builder.now (entries_of c.args.found.now.by) c.in_ok-by.by =
    subst (λ bs. AreWritten c.args.builder.now (entries_of bs) c.in_ok-by.by) c.as_slice-bound.ensures
    (c.in_ok-by.ensures.written d) in
    let x = by_tried _ c.args.found.now.rule.now c.args.found.now.exchanged t (entries_of c.args.found.now.by) _ k r h
    (λ x st rh i p. c.in_ok-tried.ensures.extends x st rh i p) in
    extends_trans _ _ _ x
    (applied_extends _ _ _ c.args.found.now.rule.now c.args.found.now.exchanged t
    (entries_of c.args.found.now.by) _ k r h x
    (λ x st rh i p. c.in_ok-tried.ensures.says x st rh i p)
    (λ l r h j e. c.in_ok-line.ensures.extends _ l r (written_stays _ _ _ _ x w) h j e))
