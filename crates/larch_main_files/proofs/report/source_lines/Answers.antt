use Rattle.std.proofs.Common.{arith}
use Rattle.larch_main_files.proofs.ReportLines.{next_line}
use Rattle.larch_main_files.proofs.report.source_lines.Goals as goal

pub loop-number-preserved : goal.loop-number-preserved
loop-number-preserved c =
    next_line c.args.sources.now c.loop-number.number c.loop-number.lines _ _ c.in_ok-line.line (omega arith)
    c.in_ok-line.ensures c.in_ok-push.ensures.ok c.loop-number.invariant
