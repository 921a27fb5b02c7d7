-- The text is read as these lines.
use Rattle.larch_main_files.specs.Verify.{duty_in}
use Rattle.larch_main_files.proofs.Verdicts.{told_text}
use Rattle.larch_main_files.proofs.verify.verification_answer.Goals as goal

pub returns-in-Ok : goal.returns-in-Ok
returns-in-Ok c =
    told_text (duty_in c.args.evidence.now.files c.args.stem.now c.args.label) c.bytes.result.now
    c.args.evidence.now.text c.in-Ok.read.second c.in-Ok.read.lines c.as_slice.result.now
    c.verdict_of.result c.bytes.ensures c.in-Ok.ensures.read c.as_slice.ensures c.verdict_of.ensures
