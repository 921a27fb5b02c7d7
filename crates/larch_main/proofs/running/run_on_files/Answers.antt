-- What is answered was to be written.
use Rattle.std.proofs.Common.{refl}
use Rattle.larch_words.specs.declared.call.Call.TheVariants.{OnFiles}
use Rattle.larch_main.proofs.Replaying.{question_told}
use Rattle.larch_main.proofs.Whole.{look_folder, look_writes, unread}
use Rattle.larch_main_files.proofs.Said.{look_sink}
use Rattle.larch_main.proofs.running.run_on_files.Goals as goal

pub returns-clause-output : goal.returns-clause-output
returns-clause-output g c = λ left.
    look_writes c.args.question.now c.args.names.now
    (g.F.Folder.files c.args.folder.now) c.answer-answered.result c.answer-answered.ensures.answer left _ _ _ _
    c.tell.result c.tell.ensures

pub returns-clause-reports : goal.returns-clause-reports
returns-clause-reports g c =
    question_told c.args.question.now c.args.names.now (g.F.Folder.files c.args.folder.now) _ _
    c.answer-answered.result c.answer-answered.ensures.works _ _ _ _ c.tell.result c.tell.ensures

pub returns-clause-source_faults : goal.returns-clause-source_faults
returns-clause-source_faults g c = λ count.
    unread (OnFiles c.args.question.now c.args.names.now) refl c.tell.result count

pub returns-clause-folder_faults : goal.returns-clause-folder_faults
returns-clause-folder_faults g c =
    look_folder c.args.question.now c.args.names.now
    (g.F.Folder.files c.args.folder.now) c.answer-answered.result c.answer-answered.ensures.answer _ _ _ _
    c.tell.result _ _ c.answer-answered.ensures.fine c.answer-answered.ensures.faults c.tell.ensures

pub returns-clause-sink_faults : goal.returns-clause-sink_faults
returns-clause-sink_faults g c =
    look_sink c.args.question.now c.args.names.now
    (g.F.Folder.files c.args.folder.now) c.answer-answered.result c.answer-answered.ensures.answer _ _ _ _
    c.tell.result c.tell.ensures

pub returns-clause-looks : goal.returns-clause-looks
returns-clause-looks g c = c.answer-answered.ensures.looks
