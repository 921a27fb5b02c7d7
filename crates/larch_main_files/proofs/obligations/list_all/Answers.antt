use Rattle.std.proofs.Common.{arith}
use Rattle.larch_main_files.specs.Obligations.{listed_at}
use Rattle.larch_main_files.proofs.ReportLines.{next_line, next_piece}
use Rattle.larch_main_files.proofs.obligations.list_all.Goals as goal

pub loop-number-preserved : goal.loop-number-preserved
loop-number-preserved c = record {
  lines =
      next_line c.args.sources.now c.loop-number.number c.loop-number.lines _ _ c.in_ok-line.line (omega arith)
      c.in_ok-line.ensures.line c.in_ok-push.ensures.ok c.loop-number.invariant.lines;
  text =
      next_piece (listed_at c.args.sources.now) c.args.sources.now c.loop-number.number c.loop-number.text _ _
      (omega arith)
      c.in_ok-line.ensures.text c.loop-number.invariant.text;
}
