use Rattle.std.proofs.lemmas.Result.{err_from_is_err_and}
use Rattle.larch_words.specs.declared.call.Question.TheVariants.{Trim}
use Rattle.larch_main_files.specs.Answer.{IsAnswer}
use Rattle.larch_main_files.specs.Gather.{Whole}
use Rattle.larch_main_files.specs.Trim.{trimming_answer}
use Rattle.larch_main_files.proofs.Answering.{evidence_answered, evidence_refused, is_answer}
use Rattle.larch_main_files.proofs.NameTexts.{certificate_is_no_file}
use Rattle.larch_main_files.proofs.trim.trim.Goals as goal

pub returns-in_err-evidence-clause-answer : goal.returns-in_err-evidence-clause-answer
returns-in_err-evidence-clause-answer g c =
    let p = err_from_is_err_and c.from_residual.result c.from_residual.ensures.1 in
    rw (p.1, p.2)
    (evidence_refused (Trim c.args.asked.now) c.args.names.now (g.F.Folder.files c.args.folder.now)
    c.args.asked.now.certificate
    (λ evidence. IsAnswer (trimming_answer c.args.asked.now.stem c.args.asked.now.label evidence))
    (λ folder text status by. by) c.in_err-evidence.field-0.0 c.in_err-evidence.ensures.found)

pub returns-clause-answer : goal.returns-clause-answer
returns-clause-answer g c =
    evidence_answered (Trim c.args.asked.now) c.args.names.now (g.F.Folder.files c.args.folder.now)
    c.args.asked.now.certificate
    (λ evidence. IsAnswer (trimming_answer c.args.asked.now.stem c.args.asked.now.label evidence))
    (λ folder text status by. by) (Whole c.in_ok-evidence.evidence) c.in_ok-trimming_answer.field-0
    c.in_ok-evidence.ensures.found (is_answer _ _ c.in_ok-trimming_answer.ensures)

pub returns-in_err-evidence-clause-looks : goal.returns-in_err-evidence-clause-looks
returns-in_err-evidence-clause-looks g c = c.gather_evidence.ensures.looks

pub returns-in_err-trimming_answer-clause-looks : goal.returns-in_err-trimming_answer-clause-looks
returns-in_err-trimming_answer-clause-looks g c = c.gather_evidence.ensures.looks

pub returns-clause-looks : goal.returns-clause-looks
returns-clause-looks g c = c.gather_evidence.ensures.looks

pub gather_evidence-requires-clause-other : goal.gather_evidence-requires-clause-other
gather_evidence-requires-clause-other g c = certificate_is_no_file c.args.asked.now.certificate c.requires.other
