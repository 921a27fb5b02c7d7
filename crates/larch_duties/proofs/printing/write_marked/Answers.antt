use Rattle.larch_duties.proofs.Lines.{marked_step}
use Rattle.larch_duties.proofs.printing.write_marked.Goals as goal

pub loop-index-preserved : goal.loop-index-preserved
loop-index-preserved c =
    marked_step c.args.marked.now c.loop-index.index c.marked_at-assumed.result.0.now c.marked_at-assumed.result.1
    c.mark_word.result.now c.loop-index.text c.write_line.new.text _ c.marked_at-assumed.ensures.left
    c.mark_word.ensures
    c.in_ok-write_line.ensures c.loop-index.invariant
