-- What is answered where a report on generated traits is wanted, and what it shows and costs.
use Rattle.std.specs.Prelude.{◌≤◌, ◌<◌, ◌+◌, ℕ, List, [], fold, length, Option}
use Rattle.std.specs.Io.KnownBytes.{Appends}
use Rattle.larch_base.specs.declared.limits.TheConstants.{DEFAULT_REWRITING_LIMIT}
use Rattle.larch_generate.specs.Generator.{generated_files, generated_text}
use Rattle.larch_generate.specs.declared.file.GeneratedFile.{GeneratedFile}
use Rattle.larch_prove_meaning.specs.Redo.{redo}
use Rattle.larch_report.specs.Counts.{counts_of, is_good}
use Rattle.larch_report.specs.declared.line.ReportLine.{ReportLine}
use Rattle.larch_main_session.specs.SessionSourcesJustified.{IsJustifiedReport}
use Rattle.larch_main_files.specs.SessionMeaningFiles.{report_of}
use Rattle.larch_main_files.specs.SessionMeaningRedone.{replayed_on}
use Rattle.larch_main_status.specs.TraitsFiles.{Table, put_file}
use Rattle.larch_words.specs.declared.call.Generation.{Generation}
use Rattle.larch_main_files.specs.Answer.{good_or_remains, said}
use Rattle.larch_main_files.specs.declared.answer.Answer.{Answer}

-- a generated file more
abbrev pub with_generated : Table → GeneratedFile → Table
with_generated files file = put_file files file.name file.text

-- the files that are generated, put in one after the other
abbrev pub generated_table : Generation → Table
generated_table traits = fold with_generated [] (generated_files traits.seed traits.size)

-- how many traits there are and the totals of the report on them, by its lines, and whether it is good
abbrev pub generation_told : ℕ → List ReportLine → Answer
generation_told size lines = said (generated_text size lines) (good_or_remains (is_good (counts_of lines)))

-- the same of these traits; no limit is given
abbrev pub generation_answer : Generation → Answer
generation_answer traits =
    generation_told traits.size (report_of DEFAULT_REWRITING_LIMIT (generated_table traits))

-- what the report on them calls proved is derivable
abbrev pub IsGenerationJustified : Generation → Type 0
IsGenerationJustified traits = IsJustifiedReport DEFAULT_REWRITING_LIMIT (generated_table traits)

-- how many steps it takes at most
abbrev pub generation_steps : Generation → ℕ
generation_steps traits = redo [] (replayed_on DEFAULT_REWRITING_LIMIT (generated_table traits))

-- What comes of it: where something was written, what the report calls proved is derivable; and so many steps were
-- counted `before` and are `now`. The sink held `held` and holds `holds`.
pub record Generates (traits : Generation) (held holds : Option (List ℕ)) (before now : ℕ) : Type 0 where
  pub front : List ℕ
  pub written : Appends held holds front
  pub shown : 0 < length front → IsGenerationJustified traits
  pub least : before ≤ now
  pub most : now ≤ before + generation_steps traits
