-- The formula can be written behind the boxes of its constants.
use Rattle.larch_derive.specs.Predicates.{Extends, HasEquation, Known}
use Rattle.larch_prove_settling.proofs.ProveBoxesExtras.{if_both}
use Rattle.larch_prove_work.proofs.Writing.{may_write, written_so}
use Rattle.larch_prove_work.proofs.formula.write_formula.Goals as goal

pub returns-clause-written : goal.returns-clause-written
returns-clause-written c =
    let e = c.open_boxes_for.new.draft in let b = c.push_refl.new.builder in let f = c.args.formula.now in
    if_both (λ n. Known e.builder f → HasEquation b n f f) (λ _. Known e.builder f → Extends e.builder b) _
    c.push_refl.result (λ way says x t s store p k ks w m.
    let o = c.in_ok-open_boxes_for.ensures.opened t s store p k ks w (may_write t c.args.block.now f p m) in
    written_so t s store e p o.top ks f b way o.stands (x o.known) (says o.known))
    c.push_refl.ensures.says c.push_refl.ensures.extends
