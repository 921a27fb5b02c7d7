use Rattle.std.proofs.Common.{ap, ◌∙◌}
use Rattle.larch_prove_invariant.specs.ProveMeaningPlans.{Implication, closed_by}
use Rattle.larch_prove_boxes.proofs.Ended.{implication_left, implication_only, is_implication, shared_there}
use Rattle.larch_prove_boxes.proofs.Handed.{implication_grows, implication_says}
use Rattle.larch_prove_boxes.proofs.implication.end_implication.Goals as goal

pub shared_box-around-requires : goal.shared_box-around-requires
shared_box-around-requires c =
    let h = c.requires.1 in
    shared_there c.requires.0 _ Implication c.args.goal.now _ _ h (implication_left _ _ _ _ _ h).around

pub only_number-number-requires : goal.only_number-number-requires
only_number-number-requires c = implication_only c.requires.0 _ c.args.goal.now _ _ c.requires.1

pub closed_goal-requires : goal.closed_goal-requires
closed_goal-requires c = is_implication c.requires.0 _ c.args.goal.now _ _ c.requires.1

pub returns-clause-says : goal.returns-clause-says
returns-clause-says c =
    let g = c.args.goal.now in
    implication_says c.finish_implication.result c.args.builder.now c.finish_implication.new.builder g _
    c.args.lefts.now _ _ _ c.shared_box-around.ensures c.only_number-number.ensures
    (λ u v q. c.in_ok-closed.ensures u v q ∙ ap (λ cs. closed_by u cs g) c.as_slice.ensures)
    c.finish_implication.ensures.says

pub returns-clause-grows : goal.returns-clause-grows
returns-clause-grows c =
    let g = c.args.goal.now in
    implication_grows c.finish_implication.result c.args.builder.now c.finish_implication.new.builder g _
    c.args.lefts.now _ _ _ c.shared_box-around.ensures c.only_number-number.ensures
    (λ u v q. c.in_ok-closed.ensures u v q ∙ ap (λ cs. closed_by u cs g) c.as_slice.ensures)
    c.finish_implication.ensures.grows
