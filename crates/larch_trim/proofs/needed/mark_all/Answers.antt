use Rattle.std.proofs.Common.{◌∙◌, get_or}
use Rattle.std.proofs.lemmas.List.{get_or_default}
use Rattle.larch_trim.proofs.Searched.{next_marks, next_waiting}
use Rattle.larch_trim.proofs.needed.mark_all.Goals as goal

pub loop-number-preserved : goal.loop-number-preserved
loop-number-preserved c =
    let ns = c.args.wanted.now in
    let i = c.loop-number.number-index in
    let number = get_or ns i 0 in
    let marks = c.loop-number.marks.items in
    let lt = c.loop-number-test.true in
    let is = get_or_default ns i 0 number lt in
    record {
      marks = next_marks ns i number marks c.mark.new.marks.items lt is c.in_ok-mark.ensures.marks
          ∙ c.loop-number.invariant.marks;
      waiting = next_waiting ns i number marks c.mark.new.marks.items c.loop-number.waiting c.mark.new.waiting lt is
          c.in_ok-mark.ensures.marks c.in_ok-mark.ensures.waiting
          ∙ c.loop-number.invariant.waiting;
    }
