use Rattle.std.proofs.Common.{ap, sym, ◌∙◌, ◌++◌, map}
use Rattle.std.specs.Prelude.{filter}
use Rattle.std.proofs.lemmas.List.{append-nil}
use Rattle.larch_base.specs.FileName.{stem_of}
use Rattle.larch_report.specs.declared.line.ReportLine.TheVariants.{Stray}
use Rattle.larch_session_report.proofs.report.push_stray_lines.Goals as goal
use Rattle.larch_session_replay.specs.SessionMeaningFiles.{is_stray}

pub loop-name-preserved : goal.loop-name-preserved
loop-name-preserved c =
    c.in_ok-push_if_stray.ensures c.next.new.self
    ∙ sym (ap (λ ns. c.loop-name.lines ++ map (λ n. Stray (stem_of n)) (filter (is_stray c.args.files.now) ns))
    c.in-Some.ensures.steps)
    ∙ c.loop-name.invariant

pub returns : goal.returns
returns c =
    sym (append-nil c.loop-name.lines)
    ∙ sym (ap (λ ns. c.loop-name.lines ++ map (λ n. Stray (stem_of n)) (filter (is_stray c.args.files.now) ns))
    c.in-None.ensures.steps.0)
    ∙ c.loop-name.invariant
