use Rattle.std.specs.Prelude.{[], ◌∷◌}
use Rattle.std.proofs.Common.{ap, subst, ◌∙◌}
use Rattle.larch_derive.specs.declared.open_box.OpenBox.{OpenBox}
use Rattle.larch_prove_invariant.specs.Book.{InBox}
use Rattle.larch_prove_invariant.specs.Holding.{HasLeft}
use Rattle.larch_prove_invariant.specs.Leaving.{Leaving}
use Rattle.larch_prove_boxes.specs.BoxLists.{box_list}
use Rattle.larch_prove_boxes.proofs.Closes.{bare_left, one_box}
use Rattle.larch_prove_boxes.proofs.leave.leave_subgoal.Goals as goal

pub returns-in_default : goal.returns-in_default
returns-in_default c t s a cs levels k j ks r h m q e =
    bare_left t s a c.args.builder.now cs levels k j ks r _ h (e ∙ ap box_list c.in_default.is)

pub returns : goal.returns
returns c t s a cs levels k j ks r h m q e =
    let w = one_box k.book.entrance c.in-Some.opened (e ∙ ap box_list c.in-Some.is) in
    subst
    (λ z. HasLeft c.close_subgoal.new.builder r.method r.now (InBox z)
    × Leaving t s c.close_subgoal.new.builder [] (j ∷ ks)) w.1.1
    (c.in_ok-close_subgoal.ensures t s a cs levels k j ks r w.0 h m q w.1.0
    (ap (λ (z : OpenBox). z.number) w.1.1))
