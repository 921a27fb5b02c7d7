-- Which duties the lines of a report call proved.
use Rattle.std.specs.Prelude.{ℕ, Bool, true, false, ◌&&◌, if◌then◌else◌, bytes_eq, List, [], ◌∷◌}
use Rattle.larch_base.specs.declared.label.Label.{Label}
use Rattle.larch_duties_meaning.specs.Claims.{same_label}
use Rattle.larch_report.specs.declared.line.DutyOutcome.{DutyOutcome}
use Rattle.larch_report.specs.declared.line.DutyOutcome.TheVariants.{Proved, Suspended, Refused}
use Rattle.larch_report.specs.declared.line.ReportLine.{ReportLine}
use Rattle.larch_report.specs.declared.line.ReportLine.TheVariants.{Right, Wrong, Duty, Script, Stray}

-- whether a line says that a duty is proved
abbrev pub says_proved : DutyOutcome → Bool
says_proved Proved = true
says_proved (Suspended goals goal) = false
says_proved (Refused line code) = false

-- whether lines, which may begin among those of the trait, call its duty with a label proved; the lines of a trait's
-- duties stand behind its own
abbrev pub call_proved : List ℕ → Label → Bool → List ReportLine → Bool
call_proved stem label own [] = false
call_proved stem label own (Right name ∷ lines) = call_proved stem label (bytes_eq stem name) lines
call_proved stem label own (Wrong name fault ∷ lines) = call_proved stem label false lines
call_proved stem label own (Duty l outcome ∷ lines) =
    if own && same_label label l then says_proved outcome else call_proved stem label own lines
call_proved stem label own (Script line code ∷ lines) = call_proved stem label own lines
call_proved stem label own (Stray name ∷ lines) = call_proved stem label own lines

-- whether the lines of a report call the duty of a trait with a label proved
abbrev pub calls_proved : List ReportLine → List ℕ → Label → Bool
calls_proved lines stem label = call_proved stem label false lines
