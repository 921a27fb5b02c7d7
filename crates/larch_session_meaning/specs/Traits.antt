-- What a report says of a trait and its script.
use Rattle.std.specs.Prelude.{ℕ, List, [], ◌∷◌, map, Result, Ok, Err}
use Rattle.larch_traits.specs.DutiesMeaningClaims.{Claim}
use Rattle.larch_duties.specs.FlatMeaningStops.{Stop, TooDeep}
use Rattle.larch_duties.specs.FlatMeaningStops as stop
use Rattle.larch_prove_meaning.specs.Reports.{TraitLine, DutyProved, DutySuspended, DutyRefused, ScriptFault}
use Rattle.larch_prove_meaning.specs.Reports.{trait_lines}
use Rattle.larch_prove_meaning.specs.Scripts.{ClaimedDuty}
use Rattle.larch_report.specs.declared.line.DutyOutcome.TheVariants.{Proved, Suspended, Refused}
use Rattle.larch_report.specs.declared.line.ReportLine.{ReportLine}
use Rattle.larch_report.specs.declared.line.ReportLine.TheVariants.{Right, Wrong, Duty, Script as on_script}
use Rattle.larch_script_commands.specs.declared.script.Script.{Script}

-- a duty of a trait, as scripts are about it
abbrev pub script_duty : Claim → ClaimedDuty
script_duty c = record { label = c.label; clause = c.clause; theory = c.theory; statement = c.statement }

-- a line on a trait that is right, among those of a report
abbrev pub reported_line : TraitLine → ReportLine
reported_line (DutyProved label) = Duty label Proved
reported_line (DutySuspended label goals goal) = Duty label (Suspended goals goal)
reported_line (DutyRefused label number code) = Duty label (Refused number code)
reported_line (ScriptFault number code) = on_script number code

-- The lines of a trait with this name and script, by what it claims: its own, then those of its duties, then those of
-- its script. Where it is wrong there is one line, and its script isn't looked at. There always is a line, since
-- references are followed deep enough.
abbrev pub trait_report : ℕ → Script → List ℕ → Result (List Claim) Stop → List ReportLine
trait_report limit script stem (Ok claims) =
    Right stem ∷ map reported_line (trait_lines limit script (map script_duty claims))
trait_report limit script stem (Err (stop.Refused fault)) = Wrong stem fault ∷ []
trait_report limit script stem (Err TooDeep) = []
