-- What a report says of the files of a session.
use Rattle.std.specs.Prelude.{ℕ, ◌&&◌, if◌then◌else◌, Bool, not, codes, List, ◌++◌, filter, flat_map, map, Option, None}
use Rattle.std.specs.Prelude.{is_some}
use Rattle.std.specs.Option.{option_map_or}
use Rattle.larch_base.specs.FileName.{is_stem, is_trait_file, stem_of}
use Rattle.larch_duties.specs.TraitDuties.{trait_claims}
use Rattle.larch_traits.specs.FlatSourcesSources.{Table as Sources}
use Rattle.larch_report.specs.declared.line.ReportLine.{ReportLine}
use Rattle.larch_report.specs.declared.line.ReportLine.TheVariants.{Stray}
use Rattle.larch_script.specs.Scripts.{empty_script, script_of}
use Rattle.larch_script_commands.specs.declared.script.Script.{Script}
use Rattle.larch_session_meaning.specs.Traits.{trait_report}
use Rattle.larch_traits.specs.Files.{Table, names_of, text_of}
use Rattle.larch_traits.specs.Reading.{read_files, trait_text}

-- the text of the script of a stem, where there is one
abbrev pub script_text : Table → List ℕ → Option (List ℕ)
script_text files stem = if is_stem stem then text_of files (stem ++ codes ".lp") else None

-- the script of a stem among the files; one that isn't there is empty
abbrev pub script_among : Table → List ℕ → Script
script_among files stem = option_map_or script_of (script_text files stem) empty_script

-- the file of this name, which is a script where it is no trait file, has no trait
abbrev pub is_stray : Table → List ℕ → Bool
is_stray files name = not (is_trait_file name) && not (is_some (trait_text files (stem_of name)))

-- the lines of scripts without a trait, in byte order of their names
abbrev pub stray_lines : Table → List ReportLine
stray_lines files = map (λ name. Stray (stem_of name)) (filter (is_stray files) (names_of files))

-- the lines of the traits that were read, each with its script among the files
abbrev pub source_lines : ℕ → Table → Sources → List ReportLine
source_lines limit files sources =
    flat_map (λ source. trait_report limit (script_among files source.0) source.0 (trait_claims sources source.0))
    sources

-- the report of these files: the lines of the trait files in byte order of their names, and then those of scripts
-- without a trait
unfoldable pub report_of : ℕ → Table → List ReportLine
report_of limit files = source_lines limit files (read_files files) ++ stray_lines files
