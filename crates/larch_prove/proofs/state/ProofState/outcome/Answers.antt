-- By what has become of the block.
use Rattle.larch_prove.proofs.Stages.{outcome_told, refused_outcome}
use Rattle.larch_prove.proofs.state.ProofState.outcome.Goals as goal

pub returns-in-Going : goal.returns-in-Going
returns-in-Going c =
    outcome_told c.outcome.result c.args.self.now.stage c.in-Going.going c.in-Going.is c.outcome.ensures

pub returns-in-Refused : goal.returns-in-Refused
returns-in-Refused c = λ s answer h.
    refused_outcome s answer c.args.self.now.stage c.in-Refused.place c.in-Refused.code c.in-Refused.is h
