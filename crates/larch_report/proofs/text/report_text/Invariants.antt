use Rattle.std.proofs.Common.{◌≡◌, ◌++◌, drop, flat_map}
use Rattle.larch_report.specs.Text.{line_text}
use Rattle.larch_report.proofs.text.report_text.Given as goal

-- what is written, and what the further lines write, are all
abbrev pub invariant-loop-line : goal.invariant-loop-line
invariant-loop-line l = l.text ++ flat_map line_text (drop l.line-index l.lines) ≡ flat_map line_text l.lines
