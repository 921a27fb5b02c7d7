use Rattle.std.proofs.Common.{◌∙◌}
use Rattle.larch_prove_boxes.proofs.Handed.{conjunction_grows, conjunction_says}
use Rattle.larch_prove_boxes.proofs.conjunction.end_conjunction.Goals as goal

pub returns-clause-says : goal.returns-clause-says
returns-clause-says c =
    conjunction_says c.finish_conjunction.result c.args.builder.now c.finish_conjunction.new.builder c.args.goal.now
    c.args.lefts.now c.as_slice.result.now (c.as_slice.ensures ∙ c.in_ok-lines.ensures)
    c.finish_conjunction.ensures.says

pub returns-clause-grows : goal.returns-clause-grows
returns-clause-grows c =
    conjunction_grows c.finish_conjunction.result c.args.builder.now c.finish_conjunction.new.builder c.args.goal.now
    c.args.lefts.now c.as_slice.result.now (c.as_slice.ensures ∙ c.in_ok-lines.ensures)
    c.finish_conjunction.ensures.extends c.finish_conjunction.ensures.says
