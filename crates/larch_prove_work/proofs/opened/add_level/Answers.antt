-- The box of its entrance, those for constants, and that of its method.
use Rattle.std.proofs.Common.{◌++◌, List, None, Option, Some, ap, sym, ◌∙◌}
use Rattle.std.proofs.lemmas.List.{append-nil}
use Rattle.larch_derive.specs.declared.open_box.OpenBox.{OpenBox}
use Rattle.larch_prove_settling.specs.ProveBoxesBoxLists.{box_list}
use Rattle.larch_prove_settling.proofs.Leaving.{if_answered}
use Rattle.larch_prove_work.proofs.Constants.{level_done}
use Rattle.larch_prove_work.proofs.opened.add_level.Goals as goal
use Rattle.larch_prove_work.specs.Opened.{constants_in_boxes}

pub returns-in_default : goal.returns-in_default
returns-in_default c =
    level_done c.args.level.now c.args.found.now c.add_box.new.found c.add_boxes.new.found c.add_boxes.new.found None
    c.in_default.is
    (c.in_ok-add_box.ensures
    ∙ ap (λ (o : Option OpenBox). c.args.found.now ++ constants_in_boxes (box_list o)) c.as_ref.ensures.value)
    (c.in_ok-add_boxes.ensures
    ∙ ap (λ (xs : List OpenBox). c.add_box.new.found ++ constants_in_boxes xs) c.as_slice.ensures)
    (sym (append-nil c.add_boxes.new.found))

pub returns : goal.returns
returns c =
    if_answered _ _ c.add_box-2.result (λ x h.
    level_done c.args.level.now c.args.found.now c.add_box.new.found c.add_boxes.new.found c.add_box-2.new.found
    (Some c.in-Some.running) c.in-Some.is
    (c.in_ok-add_box.ensures
    ∙ ap (λ (o : Option OpenBox). c.args.found.now ++ constants_in_boxes (box_list o)) c.as_ref.ensures.value)
    (c.in_ok-add_boxes.ensures
    ∙ ap (λ (xs : List OpenBox). c.add_box.new.found ++ constants_in_boxes xs) c.as_slice.ensures)
    (h ∙ ap (λ (o : Option OpenBox). c.add_boxes.new.found ++ constants_in_boxes (box_list o))
    c.as_ref-2.ensures.value)) c.add_box-2.ensures
