use Rattle.std.proofs.Common.{ap, ◌∙◌}
use Rattle.larch_prove_invariant.specs.ProveMeaningPlans.{Contradiction, closed_by}
use Rattle.larch_prove_boxes.proofs.Ended.{contradiction_left, contradiction_only, shared_there}
use Rattle.larch_prove_boxes.proofs.Handed.{contradiction_grows, contradiction_says}
use Rattle.larch_prove_boxes.proofs.contradiction.end_contradiction.Goals as goal

pub shared_box-around-requires : goal.shared_box-around-requires
shared_box-around-requires c =
    let h = c.requires.1 in
    shared_there c.requires.0 _ Contradiction c.args.goal.now _ _ h (contradiction_left _ _ _ _ _ h).around

pub only_number-number-requires : goal.only_number-number-requires
only_number-number-requires c = contradiction_only c.requires.0 _ c.args.goal.now _ _ c.requires.1

pub returns-clause-says : goal.returns-clause-says
returns-clause-says c =
    let g = c.args.goal.now in
    contradiction_says c.finish_contradiction.result c.args.builder.now c.finish_contradiction.new.builder g _
    c.args.lefts.now _ _ _ c.shared_box-around.ensures c.only_number-number.ensures
    (c.in_ok-closed.ensures ∙ ap (λ cs. closed_by g cs g) c.as_slice.ensures) c.finish_contradiction.ensures.says

pub returns-clause-grows : goal.returns-clause-grows
returns-clause-grows c =
    let g = c.args.goal.now in
    contradiction_grows c.finish_contradiction.result c.args.builder.now c.finish_contradiction.new.builder g _
    c.args.lefts.now _ _ _ c.shared_box-around.ensures c.only_number-number.ensures
    (c.in_ok-closed.ensures ∙ ap (λ cs. closed_by g cs g) c.as_slice.ensures) c.finish_contradiction.ensures.grows
