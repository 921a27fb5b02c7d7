use Rattle.std.proofs.Common.{◌≡◌, ◌++◌, map}
use Rattle.std.specs.Prelude.{filter}
use Rattle.larch_base.specs.FileName.{stem_of}
use Rattle.larch_report.specs.declared.line.ReportLine.TheVariants.{Stray}
use Rattle.larch_session_report.proofs.report.push_stray_lines.Given as goal
use Rattle.larch_session_replay.specs.SessionMeaningFiles.{is_stray, stray_lines}

-- the lines so far, and those of the files that are left, are all
abbrev pub invariant-loop-name : goal.invariant-loop-name
invariant-loop-name l =
    l.lines ++ map (λ n. Stray (stem_of n)) (filter (is_stray l.files) l.name-iterator)
    ≡ l.fn.lines ++ stray_lines l.files
