use Rattle.std.proofs.lemmas.Result.{err_from_is_err_and}
use Rattle.larch_words.specs.declared.call.Question.TheVariants.{Derive}
use Rattle.larch_main_files.specs.Derive.{MayDerive}
use Rattle.larch_main_files.specs.Gather.{Whole}
use Rattle.larch_main_files.proofs.Answering.{files_answered, files_refused}
use Rattle.larch_main.proofs.Replaying.{derivation_worked, nothing_worked}
use Rattle.larch_main.proofs.derive.derive.Goals as goal

pub returns-in_err-files-clause-answer : goal.returns-in_err-files-clause-answer
returns-in_err-files-clause-answer g c =
    let p = err_from_is_err_and c.from_residual.result c.from_residual.ensures.1 in
    rw (p.1, p.2)
    (files_refused (Derive c.args.asked.now c.args.limit) c.args.names.now (g.F.Folder.files c.args.folder.now)
    (MayDerive c.args.limit c.args.asked.now)
    (λ folder text status by. by) c.in_err-files.field-0.0 c.in_err-files.ensures.found)

pub returns-in_err-files-clause-works : goal.returns-in_err-files-clause-works
returns-in_err-files-clause-works g c = nothing_worked c.args.limit c.args.names.now _ c.args.steps.now

pub returns-in_err-answer-clause-works : goal.returns-in_err-answer-clause-works
returns-in_err-answer-clause-works g c =
    derivation_worked c.args.limit c.args.names.now (g.F.Folder.files c.args.folder.now) c.in_ok-files.files
    c.in_ok-files.ensures.found _ _ c.derivation.ensures.least c.derivation.ensures.most

pub returns-clause-answer : goal.returns-clause-answer
returns-clause-answer g c =
    files_answered (Derive c.args.asked.now c.args.limit) c.args.names.now (g.F.Folder.files c.args.folder.now)
    (MayDerive c.args.limit c.args.asked.now)
    (λ folder text status by. by) (Whole c.in_ok-files.files) c.in_ok-answer.answer c.in_ok-files.ensures.found
    c.in_ok-answer.ensures.answer

pub returns-clause-works : goal.returns-clause-works
returns-clause-works g c =
    derivation_worked c.args.limit c.args.names.now (g.F.Folder.files c.args.folder.now) c.in_ok-files.files
    c.in_ok-files.ensures.found _ _ c.derivation.ensures.least c.derivation.ensures.most

pub returns-in_err-files-clause-looks : goal.returns-in_err-files-clause-looks
returns-in_err-files-clause-looks g c = c.gather.ensures.looks

pub returns-in_err-answer-clause-looks : goal.returns-in_err-answer-clause-looks
returns-in_err-answer-clause-looks g c = c.gather.ensures.looks

pub returns-clause-looks : goal.returns-clause-looks
returns-clause-looks g c = c.gather.ensures.looks
