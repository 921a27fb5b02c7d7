-- What a report goes by.
use Rattle.std.specs.Prelude.{◌≡◌, ℕ, if◌then◌else◌, List, [], ◌++◌, Option, None}
use Rattle.larch_base.specs.FileName.{is_stem}
use Rattle.larch_session_law.specs.DutiesTraitDuties.{trait_claims}
use Rattle.larch_session_law.specs.FlatKnown.{AreAllKnown, Knows}
use Rattle.larch_session_law.specs.FlatSourcesSources.{name_at}
use Rattle.larch_session_law.specs.ProveMeaningRedo.{redo}
use Rattle.larch_report.specs.declared.line.ReportLine.{ReportLine}
use Rattle.larch_session_law.specs.SessionMeaningFiles.{script_among}
use Rattle.larch_session_law.specs.SessionMeaningRedone.{replayed_for_trait}
use Rattle.larch_session_law.specs.SessionMeaningTraits.{trait_report}
use Rattle.larch_session_sources.specs.declared.looked.Looked.{Looked}
use Rattle.larch_session_law.specs.TraitsFiles.{Table, text_of}
use Rattle.larch_session_law.specs.TraitsReading.{read_files}

-- the text of the file of a stem with an ending, where there is one
abbrev pub text_under : Table → List ℕ → List ℕ → Option (List ℕ)
text_under files stem ending = if is_stem stem then text_of files (stem ++ ending) else None

-- what is read is that of the files, and something is known of each flat trait
pub record IsRead (looked : Looked) : Type 0 where
  pub read : looked.sources.now ≡ read_files looked.files.now
  pub known : Knows looked.sources.now looked.flat_traits.now
  pub all : AreAllKnown looked.sources.now looked.flat_traits.now

-- the lines of the trait of the file with a number
abbrev pub lines_at : Looked → ℕ → List ReportLine
lines_at looked number =
    trait_report looked.limit (script_among looked.files.now (name_at looked.sources.now number))
    (name_at looked.sources.now number) (trait_claims looked.sources.now (name_at looked.sources.now number))

-- how many steps its duties take at most
abbrev pub steps_at : Looked → ℕ → ℕ
steps_at looked number =
    redo [] (replayed_for_trait looked.limit (script_among looked.files.now (name_at looked.sources.now number))
    (name_at looked.sources.now number) (trait_claims looked.sources.now (name_at looked.sources.now number)))
