-- What is proved is a block that goes on, whose lines are the certificate.
use Rattle.larch_prove.proofs.Stages.{certificate_told, not_refused}
use Rattle.larch_prove.proofs.state.ProofState.certificate.Goals as goal

pub returns : goal.returns
returns c =
    certificate_told c.certificate.result c.args.self.now.stage c.in-Going.going c.in-Going.is c.certificate.ensures

pub unreachable-requires : goal.unreachable-requires
unreachable-requires c =
    not_refused c.requires.0 c.requires.1.0 c.args.self.now.stage c.in-Refused.field-0 c.in-Refused.field-1
    c.in-Refused.is c.requires.1.1.0
