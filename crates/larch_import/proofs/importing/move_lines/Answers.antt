use Rattle.std.proofs.Common.{◌∙◌}
use Rattle.larch_verify_law.specs.Moves.{moved_line}
use Rattle.larch_import.specs.ByWords.{move_of}
use Rattle.larch_import.proofs.Moving.{one_more}
use Rattle.larch_import.proofs.importing.move_lines.Goals as goal

pub loop-line-preserved : goal.loop-line-preserved
loop-line-preserved c =
    c.in_ok-push.ensures.ok
    ∙ one_more (moved_line (move_of c.args.words.now)) c.loop-line.moved c.args.lines.now c.loop-line.line-index
    c.line-item.result c.in_ok-line.line c.loop-line-test.true c.line-item.is c.in_ok-line.ensures
    c.loop-line.invariant
