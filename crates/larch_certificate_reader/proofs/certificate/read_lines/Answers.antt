use Rattle.larch_certificate_reader.proofs.Lines.{form_joined}
use Rattle.larch_certificate_reader.proofs.certificate.read_lines.Goals as goal

pub returns-in-Err-clause-err : goal.returns-in-Err-clause-err
returns-in-Err-clause-err c =
    rw c.let_go-in-Err.ensures (form_joined c.in-Err.refusal _ _ c.in-Err.ensures.err)
