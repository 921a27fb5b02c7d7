-- By what has become of the block.
use Rattle.std.proofs.Common.{subst}
use Rattle.larch_prove.proofs.Stages.{going_again}
use Rattle.larch_prove.proofs.state.ProofState.copy.Goals as goal
use Rattle.larch_prove.specs.State.{IsNow}

pub returns-in_ok-copied-in-Going : goal.returns-in_ok-copied-in-Going
returns-in_ok-copied-in-Going c = λ s answer h.
    going_again s answer c.args.self.now.stage c.in-Going.going c.in_ok-copied-in-Going.copied c.in-Going.is
    c.in_ok-copied-in-Going.ensures h

pub returns-in-Refused : goal.returns-in-Refused
returns-in-Refused c = λ s answer h. subst (λ x. IsNow s x answer) c.in-Refused.is h
