-- The lines that are written of trait files: of each what is wrong with it first, or that nothing is.
use Rattle.std.specs.Prelude.{◌≡◌, ℕ, List, [], ◌∷◌, flat_map, Result, Ok, Err}
use Rattle.larch_flat_meaning.specs.Stops.{Stop, Refused, TooDeep}
use Rattle.larch_flat_sources.specs.Sources.{Table as Sources}
use Rattle.larch_session_meaning.specs.DutiesTraitDuties.{trait_duties}
use Rattle.larch_report.specs.declared.line.ReportLine.{ReportLine}
use Rattle.larch_report.specs.declared.line.ReportLine.TheVariants.{Right, Wrong}
use Rattle.larch_traits.specs.Files.{Table}
use Rattle.larch_traits.specs.Reading.{read_files}

-- the line of a trait, by its duties; there is one of each, since references are followed deep enough
abbrev pub trait_lines : {A : Type 0} → List ℕ → Result A Stop → List ReportLine
trait_lines stem (Ok duties) = Right stem ∷ []
trait_lines stem (Err (Refused fault)) = Wrong stem fault ∷ []
trait_lines stem (Err TooDeep) = []

-- this is the one line of the trait of a name
abbrev pub IsLineOf : Sources → List ℕ → ReportLine → Type 0
IsLineOf sources stem line = trait_lines stem (trait_duties sources stem) ≡ line ∷ []

-- the lines of what is read of files: a line of each
abbrev pub source_lines : Sources → List ReportLine
source_lines sources = flat_map (λ source. trait_lines source.0 (trait_duties sources source.0)) sources

-- a check of these files: the lines of the trait files, in byte order of their names
abbrev pub check_of : Table → List ReportLine
check_of files = source_lines (read_files files)
