use Rattle.std.proofs.Common.{◌∙◌, ap}
use Rattle.std.proofs.lemmas.Result.{err_from_is_err_and}
use Rattle.larch_main_files.specs.Gather.{Whole}
use Rattle.larch_main_files.specs.Migrate.{migration_answer}
use Rattle.larch_main_files.proofs.Answering.{is_answer}
use Rattle.larch_main_files.proofs.Migrating.{migration_answered, migration_refused}
use Rattle.larch_main_files.proofs.NameTexts.{certificate_is_no_file}
use Rattle.larch_main_files.proofs.migrate.migrate.Goals as goal

pub returns-in_err-evidence-clause-answer : goal.returns-in_err-evidence-clause-answer
returns-in_err-evidence-clause-answer g c =
    let p = err_from_is_err_and c.from_residual.result c.from_residual.ensures.1 in
    rw (p.1, p.2)
    (migration_refused c.args.certificate.now (g.F.Folder.files c.args.folder.now)
    c.in_err-evidence.field-0.0 c.in_err-evidence.ensures.found)

pub returns-clause-answer : goal.returns-clause-answer
returns-clause-answer g c =
    migration_answered c.args.certificate.now (g.F.Folder.files c.args.folder.now)
    (Whole c.in_ok-evidence.evidence) c.in_ok-answer.answer c.in_ok-evidence.ensures.found
    (is_answer _ _ (c.in_ok-answer.ensures ∙ ap migration_answer c.bytes.ensures))

pub returns-in_err-evidence-clause-looks : goal.returns-in_err-evidence-clause-looks
returns-in_err-evidence-clause-looks g c = c.gather_evidence.ensures.looks

pub returns-in_err-answer-clause-looks : goal.returns-in_err-answer-clause-looks
returns-in_err-answer-clause-looks g c = c.gather_evidence.ensures.looks

pub returns-clause-looks : goal.returns-clause-looks
returns-clause-looks g c = c.gather_evidence.ensures.looks

pub gather_evidence-requires-clause-other : goal.gather_evidence-requires-clause-other
gather_evidence-requires-clause-other g c = certificate_is_no_file c.args.certificate.now c.requires
