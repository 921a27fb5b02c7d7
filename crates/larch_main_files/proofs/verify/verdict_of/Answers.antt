-- There is no duty where the trait isn't there, and none where something is wrong with it.
use Rattle.larch_main_files.specs.Verify.{duty_in, verdict_of}
use Rattle.std.proofs.Common.{None}
use Rattle.larch_main_files.proofs.Answering.{same_ok}
use Rattle.larch_main_files.proofs.Verdicts.{judged_absent, judged_refused}
use Rattle.larch_main_files.proofs.verify.verdict_of.Goals as goal

pub returns-in_default : goal.returns-in_default
returns-in_default c =
    same_ok (verdict_of None c.args.lines.now)
    (verdict_of (duty_in c.args.files.now c.args.stem.now c.args.label) c.args.lines.now) c.no_duty.result
    (judged_absent c.args.files.now c.args.stem.now c.args.label c.args.lines.now c.in_ok-sources.sources
    c.number_of.result
    c.in_ok-sources.ensures c.number_of.ensures.there c.in_default.is)
    (c.no_duty.ensures c.args.lines.now)

pub returns-in-Err-Wrong : goal.returns-in-Err-Wrong
returns-in-Err-Wrong c =
    same_ok (verdict_of None c.args.lines.now)
    (verdict_of (duty_in c.args.files.now c.args.stem.now c.args.label) c.args.lines.now)
    c.no_duty-in-Err-Wrong.result
    (judged_refused c.args.files.now c.args.stem.now c.args.label c.args.lines.now c.in_ok-sources.sources
    c.in-Some.number c.duties_of.result
    c.in-Err-Wrong.field-0 c.in-Err-Wrong.field-0-0 c.in-Err-Wrong.field-0-1
    c.in_ok-sources.ensures c.in-Some.ensures.name c.in-Err-Wrong.is c.in-Err-Wrong.field-0-is c.duties_of.ensures)
    (c.no_duty-in-Err-Wrong.ensures c.args.lines.now)
