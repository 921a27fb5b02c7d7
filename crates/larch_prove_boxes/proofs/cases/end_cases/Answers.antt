use Rattle.larch_prove_invariant.specs.ProveMeaningPlans.{Cases}
use Rattle.larch_prove_boxes.proofs.Ended.{cases_both, cases_left, shared_there}
use Rattle.larch_prove_boxes.proofs.Handed.{cases_grow, cases_say}
use Rattle.larch_prove_boxes.proofs.cases.end_cases.Goals as goal

pub shared_box-around-requires : goal.shared_box-around-requires
shared_box-around-requires c =
    let h = c.requires.1.1 in
    shared_there c.requires.0 _ (Cases c.args.formula.now) c.requires.1.0 _ _ h (cases_left _ _ _ _ _ _ h).around

pub both_numbers-first-requires : goal.both_numbers-first-requires
both_numbers-first-requires c = cases_both c.requires.0 _ c.args.formula.now c.requires.1.0 _ _ c.requires.1.1

pub returns-clause-says : goal.returns-clause-says
returns-clause-says c =
    cases_say c.finish_cases.result c.args.builder.now c.finish_cases.new.builder c.args.formula.now _ c.args.lefts.now
    _ _ _ c.shared_box-around.ensures c.both_numbers-first.ensures c.finish_cases.ensures.says

pub returns-clause-grows : goal.returns-clause-grows
returns-clause-grows c =
    cases_grow c.finish_cases.result c.args.builder.now c.finish_cases.new.builder c.args.formula.now _ c.args.lefts.now
    _ _ _ c.shared_box-around.ensures c.both_numbers-first.ensures c.finish_cases.ensures.grows
