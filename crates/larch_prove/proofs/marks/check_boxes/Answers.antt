-- Marks that wait stay where boxes are checked.
use Rattle.larch_prove.proofs.Marked.{checked_off, checked_on}
use Rattle.larch_prove.proofs.marks.check_boxes.Goals as goal

pub returns-then-on : goal.returns-then-on
returns-then-on c = λ t s store p w. checked_on t s store c.args.draft.now p c.args.on c.if-on.true w

pub returns : goal.returns
returns c = λ t s store p w.
    checked_off t s store c.args.draft.now c.clear.new.self p c.args.on c.if-on.false c.clear.ensures.items w
