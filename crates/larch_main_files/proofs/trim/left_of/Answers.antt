-- A good verdict becomes what is left, and another one stays.
use Rattle.std.proofs.Common.{ap, sym, ◌∙◌, List, Option}
use Rattle.larch_certificate.specs.declared.line.Line.{Line}
use Rattle.larch_duties_meaning.specs.Duties.{Duty}
use Rattle.larch_main_files.specs.Answer.{said}
use Rattle.larch_main_files.specs.Trim.{left_of, left_text}
use Rattle.larch_main_files.specs.Verify.{duty_in, verdict_of}
use Rattle.larch_main_status.specs.declared.status.Status.TheVariants.{Good}
use Rattle.larch_main_files.proofs.Answering.{same_ok}
use Rattle.larch_main_files.proofs.Left.{good_left, other_left}
use Rattle.larch_main_files.proofs.trim.left_of.Goals as goal

pub returns-in-Good : goal.returns-in-Good
returns-in-Good c =
    let lines : List Line = c.args.lines.now in
    let duty : Option Duty = duty_in c.args.files.now c.args.stem.now c.args.label in
    same_ok (said (left_text lines) Good) (left_of (verdict_of duty lines) lines) c.left.result
    (sym (good_left c.in_ok-verdict.verdict lines c.in-Good.is)
    ∙ ap (λ v. left_of v lines) (c.in_ok-verdict.ensures ∙ ap (verdict_of duty) c.as_slice.ensures)) c.left.ensures

pub returns-in_default : goal.returns-in_default
returns-in_default c =
    let lines : List Line = c.args.lines.now in
    let duty : Option Duty = duty_in c.args.files.now c.args.stem.now c.args.label in
    sym (other_left c.in_ok-verdict.verdict lines c.in_default.not-Good)
    ∙ ap (λ v. left_of v lines) (c.in_ok-verdict.ensures ∙ ap (verdict_of duty) c.as_slice.ensures)
