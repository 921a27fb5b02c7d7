use Rattle.std.proofs.Common.{◌∙◌, ap, ap₂, subst}
use Rattle.larch_main_files.specs.Answer.{report_answer}
use Rattle.larch_main_files.specs.Replay.{replay_answer}
use Rattle.larch_main_files.proofs.Answering.{ok_always, same_ok}
use Rattle.larch_main.proofs.replay.report.Goals as goal
use Rattle.larch_main_session.specs.SessionSourcesJustified.{IsJustifiedReport}
use Rattle.larch_main_files.specs.SessionMeaningFiles.{report_of}

pub returns-in-Ok-clause-answer : goal.returns-in-Ok-clause-answer
returns-in-Ok-clause-answer g c =
    same_ok _ (replay_answer c.args.limit c.args.files) c.report_answer.result
    (ap report_answer
    (c.as_slice.ensures ∙ (c.in-Ok.ensures.lines
    ∙ ap₂ report_of (ap (λ b. b.0) c.with_files-session.ensures.base) c.with_files-session.ensures.files)))
    c.report_answer.ensures

pub returns-in-Ok-clause-proved : goal.returns-in-Ok-clause-proved
returns-in-Ok-clause-proved g c =
    ok_always c.report_answer.result
    (subst (λ limit. IsJustifiedReport limit c.args.files) (ap (λ b. b.0) c.with_files-session.ensures.base)
    (subst (λ files. IsJustifiedReport c.with_files-session.result.base.0 files) c.with_files-session.ensures.files
    c.in-Ok.ensures.proved))
