-- What was answered, or what is to a refusal.
use Rattle.larch_main_files.specs.Answer.{answer_of}
use Rattle.larch_main_files.specs.Questions.{Answered}
use Rattle.larch_main_files.proofs.Answering.{err_by, ok_by, refusal_answered}
use Rattle.larch_main.proofs.Replaying.{works_answered}
use Rattle.larch_main.proofs.Whole.{answer_faults}
use Rattle.larch_main.proofs.running.answer.Goals as goal

pub returns-clause-answer : goal.returns-clause-answer
returns-clause-answer g c =
    refusal_answered
    (λ answer. Answered c.args.question.now c.args.names.now (g.F.Folder.files c.args.folder.now) answer)
    (answer_of c.answer_of-answered.result) c.settle.result c.answer_of-answered.ensures.answer
    c.settle.ensures.answer

pub returns-clause-works : goal.returns-clause-works
returns-clause-works g c =
    works_answered c.args.question.now c.args.names.now (g.F.Folder.files c.args.folder.now) _ _
    (answer_of c.answer_of-answered.result) c.settle.result c.answer_of-answered.ensures.works c.settle.ensures.answer

pub returns-clause-fine : goal.returns-clause-fine
returns-clause-fine g c =
    ok_by c.settle.result
    (λ fine. fine _ _ (answer_faults c.answer_of-answered.result _ _ c.answer_of-answered.ensures.fine
    c.answer_of-answered.ensures.faults)) c.settle.ensures.fine

pub returns-clause-faults : goal.returns-clause-faults
returns-clause-faults g c =
    err_by _ _ c.settle.result
    (λ halt by. by _ _ (answer_faults c.answer_of-answered.result _ _ c.answer_of-answered.ensures.fine
    c.answer_of-answered.ensures.faults)) c.settle.ensures.halt

pub returns-clause-looks : goal.returns-clause-looks
returns-clause-looks g c = c.answer_of-answered.ensures.looks
