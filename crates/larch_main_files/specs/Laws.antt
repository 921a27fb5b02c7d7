-- What the laws about checks speak of.
use Rattle.std.specs.Prelude.{ℕ, List, [], ◌∷◌}
use Rattle.larch_report.specs.declared.line.ReportLine.{ReportLine}
use Rattle.larch_report.specs.declared.line.ReportLine.TheVariants.{Duty, Right, Script, Stray, Wrong}

-- the trait that a line is of; there is none for a line of a duty, of a block, of a script
abbrev pub stems_in : ReportLine → List (List ℕ)
stems_in (Right stem) = stem ∷ []
stems_in (Wrong stem fault) = stem ∷ []
stems_in (Duty label outcome) = []
stems_in (Script line code) = []
stems_in (Stray stem) = []
