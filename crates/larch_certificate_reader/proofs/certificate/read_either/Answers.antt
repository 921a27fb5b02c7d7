use Rattle.larch_certificate_reader.proofs.Lines.{none_read}
use Rattle.larch_certificate_reader.proofs.certificate.read_either.Goals as goal

pub returns-clause-none : goal.returns-clause-none
returns-clause-none c = none_read c.read_version.result c.args.text.now c.read_version.ensures.err
