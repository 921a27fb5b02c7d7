use Rattle.std.proofs.Common.{◌<◌, ◌∙◌, length, arith}
use Rattle.larch_trim.specs.ByNumbers.{number_at}
use Rattle.larch_trim.proofs.Keeping.{kept_more, kept_same, mark_is}
use Rattle.larch_trim.proofs.trimming.keep_lines.Goals.{then-marks-i+in_ok-line+in_ok-push, else-marks-i}
use Rattle.larch_trim.proofs.trimming.keep_lines.Goals as goal

pub loop-i-preserved : goal.loop-i-preserved
loop-i-preserved c =
    let lines = c.args.lines.now in
    let marks = c.args.marks.now in
    let i = c.loop-i.i in
    let long = c.requires.long in
    let lt : i < length lines = c.loop-i-test.true in
    let low : i < length marks = omega (arith, lt, long) in
    elim c.if-marks-i.branch [
      | then-marks-i+in_ok-line+in_ok-push w ↦
          w.left-is ∙ w.in_ok-push.ensures.ok
          ∙ kept_more marks lines (number_at c.args.numbers.now) c.requires.numbers i w.index-lines-i.result
          w.in_ok-line.line c.loop-i.left lt w.index-lines-i.is (mark_is marks i _ low ∙ w.if-marks-i.true)
          w.in_ok-line.ensures c.loop-i.invariant
      | else-marks-i w ↦
          w.left-is
          ∙ kept_same marks lines i c.loop-i.left lt (mark_is marks i _ low ∙ w.if-marks-i.false) c.loop-i.invariant
    ]
