use Rattle.larch_certificate_reader.proofs.Lines.{none_first}
use Rattle.larch_certificate_reader.proofs.certificate.read_certificate.Goals as goal

pub returns-in-Err-clause-none : goal.returns-in-Err-clause-none
returns-in-Err-clause-none c = none_first c.in-Err.refusal c.args.text.now c.in-Err.ensures.err
