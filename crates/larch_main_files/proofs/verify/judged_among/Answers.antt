-- A duty that was found is judged by its theory and its statement.
use Rattle.larch_base.specs.Label.{label_text}
use Rattle.larch_duties_meaning.specs.Duties.{all_duties}
use Rattle.larch_verify.specs.Verdict.{refusal}
use Rattle.larch_main_files.specs.Verify.{duty_with}
use Rattle.larch_main_files.proofs.Verdicts.{told_found, told_none}
use Rattle.larch_main_files.proofs.verify.judged_among.Goals as goal

pub returns-in_ok-verdict-in-Some : goal.returns-in_ok-verdict-in-Some
returns-in_ok-verdict-in-Some c =
    told_found (duty_with (label_text c.args.label) (all_duties c.args.duties.now)) c.in_ok-theory.field-0
    c.in-Some.theory c.in-Some.statement c.args.lines.now
    (refusal c.in_ok-verdict-in-Some.verdict) c.verdict_told.result c.in_ok-theory.ensures c.in-Some.is
    c.in_ok-verdict-in-Some.ensures.verdict c.verdict_told.ensures

pub returns-in-None : goal.returns-in-None
returns-in-None c =
    told_none (duty_with (label_text c.args.label) (all_duties c.args.duties.now)) c.in_ok-theory.field-0
    c.args.lines.now c.no_duty.result
    c.in_ok-theory.ensures c.in-None.is (c.no_duty.ensures c.args.lines.now)
