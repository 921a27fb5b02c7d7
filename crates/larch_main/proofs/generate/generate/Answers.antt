-- The report on the files of the session is that on the generated ones.
use Rattle.std.proofs.Common.{◌∙◌, ap, ap₂, subst}
use Rattle.larch_main_files.specs.SessionMeaningFiles.{report_of}
use Rattle.larch_main_files.proofs.Answering.{ok_always, same_ok}
use Rattle.larch_main_session.specs.SessionSourcesJustified.{IsJustifiedReport}
use Rattle.larch_main.specs.Generate.{generated_table, generation_answer, generation_told}
use Rattle.larch_main.proofs.generate.generate.Goals as goal

pub returns-in-Ok-clause-answer : goal.returns-in-Ok-clause-answer
returns-in-Ok-clause-answer g c =
    same_ok _ (generation_answer c.args.traits) c.generation_told.result
    (ap (generation_told c.args.traits.size)
    (c.as_slice.ensures ∙ (c.in-Ok.ensures.lines
    ∙ ap₂ report_of (ap (λ b. b.0) c.with_files-session.ensures.base)
    (c.with_files-session.ensures.files ∙ c.in_ok-files.ensures))))
    c.generation_told.ensures

pub returns-in-Ok-clause-proved : goal.returns-in-Ok-clause-proved
returns-in-Ok-clause-proved g c =
    ok_always c.generation_told.result
    (subst (λ limit. IsJustifiedReport limit (generated_table c.args.traits))
    (ap (λ b. b.0) c.with_files-session.ensures.base)
    (subst (λ files. IsJustifiedReport c.with_files-session.result.base.0 files)
    (c.with_files-session.ensures.files ∙ c.in_ok-files.ensures) c.in-Ok.ensures.proved))
