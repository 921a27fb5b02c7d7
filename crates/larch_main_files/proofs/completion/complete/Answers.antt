use Rattle.std.proofs.lemmas.Result.{err_from_is_err_and}
use Rattle.larch_words.specs.declared.call.Question.TheVariants.{Complete}
use Rattle.larch_main_files.specs.Answer.{IsAnswer}
use Rattle.larch_main_files.specs.Completion.{completion_answer}
use Rattle.larch_main_files.specs.Gather.{Whole}
use Rattle.larch_main_files.proofs.Answering.{files_answered, files_refused, is_answer}
use Rattle.larch_main_files.proofs.completion.complete.Goals as goal

pub returns-in_err-files-clause-answer : goal.returns-in_err-files-clause-answer
returns-in_err-files-clause-answer g c =
    let p = err_from_is_err_and c.from_residual.result c.from_residual.ensures.1 in
    rw (p.1, p.2)
    (files_refused (Complete c.args.stem.now c.args.limit) c.args.names.now (g.F.Folder.files c.args.folder.now)
    (λ files. IsAnswer (completion_answer c.args.stem.now c.args.limit files))
    (λ folder text status by. by) c.in_err-files.field-0.0 c.in_err-files.ensures.found)

pub returns-clause-answer : goal.returns-clause-answer
returns-clause-answer g c =
    files_answered (Complete c.args.stem.now c.args.limit) c.args.names.now (g.F.Folder.files c.args.folder.now)
    (λ files. IsAnswer (completion_answer c.args.stem.now c.args.limit files))
    (λ folder text status by. by) (Whole c.in_ok-files.files) c.in_ok-answer.answer c.in_ok-files.ensures.found
    (is_answer _ _ c.in_ok-answer.ensures)

pub returns-in_err-files-clause-looks : goal.returns-in_err-files-clause-looks
returns-in_err-files-clause-looks g c = c.gather.ensures.looks

pub returns-in_err-answer-clause-looks : goal.returns-in_err-answer-clause-looks
returns-in_err-answer-clause-looks g c = c.gather.ensures.looks

pub returns-clause-looks : goal.returns-clause-looks
returns-clause-looks g c = c.gather.ensures.looks
