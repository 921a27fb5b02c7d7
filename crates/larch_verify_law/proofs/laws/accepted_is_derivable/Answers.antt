use Rattle.larch_verify_law.proofs.Accepted.{accepted_derivable}
use Rattle.larch_verify_law.proofs.Verdicts.{verdict_accepts}
use Rattle.larch_verify_law.proofs.laws.accepted_is_derivable.Goals as goal

pub returns : goal.returns
returns c =
    record {
      accepted = accepted_derivable;
      verdict = λ t s lines w n e. accepted_derivable t s lines w n (verdict_accepts t s lines e);
    }
