use Rattle.std.proofs.Common.{◌∙◌, ap}
use Rattle.larch_main_files.specs.Answer.{report_answer}
use Rattle.larch_main_files.specs.Check.{check_answer}
use Rattle.larch_main_files.proofs.Answering.{same_ok}
use Rattle.larch_main_files.proofs.check.report.Goals as goal

pub returns : goal.returns
returns c =
    same_ok _ (check_answer c.args.files.now) c.report_answer.result
    (ap report_answer (c.as_slice.ensures ∙ c.in_ok-lines.ensures)) c.report_answer.ensures
