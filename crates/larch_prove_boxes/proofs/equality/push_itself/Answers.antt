use Rattle.std.proofs.Common.{◌∙◌}
use Rattle.larch_prove_boxes.proofs.Equalities.{itself_at}
use Rattle.larch_prove_boxes.proofs.Handed.{itself_grows, itself_said}
use Rattle.larch_prove_boxes.proofs.equality.push_itself.Goals as goal

pub returns-clause-says : goal.returns-clause-says
returns-clause-says c =
    itself_said c.push_inst.result c.args.builder.now c.push_row.new.builder c.push_inst.new.builder
    c.in_ok-stated.stated c.args.term.now c.in_ok-by.by c.in_ok-by.ensures
    (λ k. itself_at _ _ _ c.args.term.now c.in_ok-by.by _ c.in_ok-by.ensures
    (c.in_ok-sort.ensures ∙ c.sort_of.ensures) k c.in_ok-stated.ensures.says c.in_ok-stated.ensures.extends)
    c.push_inst.ensures.says

pub returns-clause-extends : goal.returns-clause-extends
returns-clause-extends c =
    itself_grows c.push_inst.result c.args.builder.now c.push_row.new.builder c.push_inst.new.builder
    c.in_ok-stated.stated c.args.term.now c.in_ok-by.by
    (λ k. itself_at _ _ _ c.args.term.now c.in_ok-by.by _ c.in_ok-by.ensures
    (c.in_ok-sort.ensures ∙ c.sort_of.ensures) k c.in_ok-stated.ensures.says c.in_ok-stated.ensures.extends)
    c.push_inst.ensures.extends
