-- What a report counts.
use Rattle.std.specs.Prelude.{ℕ, ◌==◌, ◌&&◌, Bool, true, false, List, count_by}
use Rattle.larch_report.specs.declared.counts.Counts.{Counts}
use Rattle.larch_report.specs.declared.line.DutyOutcome.{DutyOutcome}
use Rattle.larch_report.specs.declared.line.DutyOutcome.TheVariants.{Proved, Suspended, Refused}
use Rattle.larch_report.specs.declared.line.ReportLine.{ReportLine}
use Rattle.larch_report.specs.declared.line.ReportLine.TheVariants.{Right, Wrong, Duty, Script, Stray}

-- a line is of a trait
abbrev pub is_trait : ReportLine → Bool
is_trait (Right stem) = true
is_trait (Wrong stem fault) = true
is_trait (Duty label outcome) = false
is_trait (Script line code) = false
is_trait (Stray stem) = false

-- a line says that something is wrong with a trait or a script
abbrev pub is_error : ReportLine → Bool
is_error (Right stem) = false
is_error (Wrong stem fault) = true
is_error (Duty label outcome) = false
is_error (Script line code) = true
is_error (Stray stem) = true

-- a line says that a duty is proved
abbrev pub is_proved : ReportLine → Bool
is_proved (Duty label Proved) = true
is_proved _ = false

-- a line says that a goal of a duty is open
abbrev pub is_suspended : ReportLine → Bool
is_suspended (Duty label (Suspended goals goal)) = true
is_suspended _ = false

-- a line says that the script of a duty is refused
abbrev pub is_refused : ReportLine → Bool
is_refused (Duty label (Refused line code)) = true
is_refused _ = false

-- how many lines are such
abbrev pub counts_of : List ReportLine → Counts
counts_of lines =
    record {
      traits = count_by is_trait lines;
      errors = count_by is_error lines;
      proved = count_by is_proved lines;
      suspended = count_by is_suspended lines;
      refused = count_by is_refused lines;
    }

-- a report that counts so is good: nothing is wrong, and no duty is left
abbrev pub is_good : Counts → Bool
is_good counts = (counts.errors == 0) && ((counts.suspended == 0) && (counts.refused == 0))
