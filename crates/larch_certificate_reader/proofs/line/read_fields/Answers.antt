use Rattle.larch_certificate_reader.proofs.Fields.{rule_cut}
use Rattle.larch_certificate_reader.proofs.line.read_fields.Goals as goal

pub returns-in-Some : goal.returns-in-Some
returns-in-Some c =
    rw (rule_cut c.args.here c.args.text.now c.in-Some.word.now c.in-Some.parts.now
    (rw c.in-Some.is at c.cut_at.ensures)) c.read_rule.ensures
