-- What is answered where the obligations of files are asked for.
use Rattle.std.specs.Prelude.{ℕ, List, [], ◌++◌, flat_map, codes, Result, Ok, Err}
use Rattle.larch_flat_meaning.specs.Stops.{Stop, Refused, TooDeep}
use Rattle.larch_flat_sources.specs.Sources.{Table as Sources}
use Rattle.larch_session_meaning.specs.DutiesTraitDuties.{trait_listed}
use Rattle.larch_report.specs.Counts.{counts_of, is_good}
use Rattle.larch_report.specs.Text.{line_text}
use Rattle.larch_report.specs.declared.line.ReportLine.TheVariants.{Right, Wrong}
use Rattle.larch_traits.specs.Files.{Table}
use Rattle.larch_traits.specs.Reading.{read_files}
use Rattle.larch_main_files.specs.Answer.{good_or_remains, said}
use Rattle.larch_main_files.specs.Report.{check_of}
use Rattle.larch_main_files.specs.declared.answer.Answer.{Answer}

-- the line of a trait, and behind it the lines of its flat trait and duties; or its line alone, where something is
-- wrong
abbrev pub listing_of : List ℕ → Result (List ℕ) Stop → List ℕ
listing_of stem (Ok listed) = line_text (Right stem) ++ listed
listing_of stem (Err (Refused fault)) = line_text (Wrong stem fault)
listing_of stem (Err TooDeep) = []

-- the same of the trait of a name among what is read of files
abbrev pub listed_at : Sources → List ℕ → List ℕ
listed_at sources stem = listing_of stem (trait_listed sources stem)

-- the same for all that is read of files
abbrev pub listings_of : Sources → List ℕ
listings_of sources = flat_map (λ source. listed_at sources source.0) sources

-- the listings of all trait files and a last line; it is good where nothing is wrong with a trait
abbrev pub obligations_answer : Table → Answer
obligations_answer files =
    said (listings_of (read_files files) ++ codes "end\n") (good_or_remains (is_good (counts_of (check_of files))))
