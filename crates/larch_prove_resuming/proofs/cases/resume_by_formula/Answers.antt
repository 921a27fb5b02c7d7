-- The formula can be written where boxes are open for its constants.
use Rattle.std.proofs.Common.{◌∙◌}
use Rattle.larch_prove_resuming.proofs.ByCases.{may_resume, opens_work}
use Rattle.larch_prove_resuming.proofs.cases.resume_by_formula.Goals as goal
use Rattle.larch_prove_work.proofs.ProveSettlingLeaving.{if_answered, if_refused}

pub resume-requires-clause-works : goal.resume-requires-clause-works
resume-requires-clause-works c =
    let d = c.open_boxes_for.new.draft in let f = c.args.formula in
    let opens = opens_work c.args.work.now d f c.as_slice-block.result.now
    (c.as_slice-block.ensures ∙ c.deref.ensures) c.in_ok-open_boxes_for.ensures.opened in
    (c.requires.works.0, may_resume _ _ c.args.work.now f c.requires.works.0 d opens c.requires.works.1)

pub returns-clause-made : goal.returns-clause-made
returns-clause-made c =
    let d = c.open_boxes_for.new.draft in let f = c.args.formula in
    let opens = opens_work c.args.work.now d f c.as_slice-block.result.now
    (c.as_slice-block.ensures ∙ c.deref.ensures) c.in_ok-open_boxes_for.ensures.opened in
    if_answered _ _ c.resume.result (λ x h p m. h p (may_resume _ _ c.args.work.now f p d opens m))
    c.resume.ensures.made

pub returns-clause-refused : goal.returns-clause-refused
returns-clause-refused c =
    let d = c.open_boxes_for.new.draft in let f = c.args.formula in
    let opens = opens_work c.args.work.now d f c.as_slice-block.result.now
    (c.as_slice-block.ensures ∙ c.deref.ensures) c.in_ok-open_boxes_for.ensures.opened in
    if_refused _ _ c.resume.result (λ r h p m. h p (may_resume _ _ c.args.work.now f p d opens m))
    c.resume.ensures.refused
