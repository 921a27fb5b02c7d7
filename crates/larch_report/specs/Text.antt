-- Reports as they are written.
use Rattle.std.specs.Prelude.{ℕ, List, ◌++◌, flat_map, codes, decimal}
use Rattle.larch_base.specs.CodeText.{code_text}
use Rattle.larch_base.specs.Label.{label_text}
use Rattle.larch_base.specs.Position.{position_text}
use Rattle.larch_base.specs.declared.code.Code.{Code}
use Rattle.larch_base.specs.declared.fault.Fault.{Fault}
use Rattle.larch_print.specs.Print.{printing_of}
use Rattle.larch_report.specs.Counts.{counts_of}
use Rattle.larch_report.specs.declared.counts.Counts.{Counts}
use Rattle.larch_report.specs.declared.line.DutyOutcome.{DutyOutcome}
use Rattle.larch_report.specs.declared.line.DutyOutcome.TheVariants.{Proved, Suspended, Refused}
use Rattle.larch_report.specs.declared.line.ReportLine.{ReportLine}
use Rattle.larch_report.specs.declared.line.ReportLine.TheVariants.{Right, Wrong, Duty, Script, Stray}

-- what is wrong with a trait, and where
abbrev pub fault_text : Fault → List ℕ
fault_text fault = codes " error " ++ position_text fault.pos ++ codes " " ++ code_text fault.code ++ codes "\n"

-- what came of a duty
abbrev pub outcome_text : DutyOutcome → List ℕ
outcome_text Proved = codes " proved\n"
outcome_text (Suspended goals goal) =
    codes " suspended goals " ++ decimal goals ++ codes ": " ++ (printing_of goal ++ codes "\n")
outcome_text (Refused line code) = codes " refused " ++ decimal line ++ codes " " ++ code_text code ++ codes "\n"

-- a block of a script that isn't replayed
abbrev pub script_text : ℕ → Code → List ℕ
script_text line code = codes "script " ++ decimal line ++ codes " " ++ code_text code ++ codes "\n"

-- a line as it is written
abbrev pub line_text : ReportLine → List ℕ
line_text (Right stem) = codes "trait " ++ (stem ++ codes "\n")
line_text (Wrong stem fault) = codes "trait " ++ (stem ++ fault_text fault)
line_text (Duty label outcome) = label_text label ++ outcome_text outcome
line_text (Script line code) = script_text line code
line_text (Stray stem) = codes "script " ++ (stem ++ codes " without trait\n")

-- the line of the totals
abbrev pub total_text : Counts → List ℕ
total_text counts =
    codes "total " ++ (decimal counts.traits ++ (codes " traits, " ++ (decimal counts.errors ++ (codes " errors, "
    ++ (decimal counts.proved ++ (codes " proved, " ++ (decimal counts.suspended ++ (codes " suspended, "
    ++ (decimal counts.refused ++ codes " refused\n")))))))))

-- a report as it is written: its lines, the totals, and `end`
abbrev pub report_text : List ReportLine → List ℕ
report_text lines = flat_map line_text lines ++ (total_text (counts_of lines) ++ codes "end\n")
