-- Boxes are opened for constants that aren't open, and then the term can be written.
use Rattle.std.proofs.Common.{◌∙◌}
use Rattle.larch_prove_work.proofs.Writing.{opened_so}
use Rattle.larch_prove_work.proofs.boxes.open_boxes_for.Goals as goal

pub returns-clause-opened : goal.returns-clause-opened
returns-clause-opened c = λ t s store p k ks w m.
    opened_so t s store c.args.draft.now c.args.block.now c.as_slice.result.now c.args.term.now p k ks w m
    (c.as_slice.ensures ∙ c.in_ok-opened.ensures) c.open_constants_of.new.builder c.in_ok-boxes.boxes
    c.push_boxes.new.boxes c.in_ok-boxes.ensures.holds c.in_ok-boxes.ensures.known c.in_ok-push_boxes.ensures
