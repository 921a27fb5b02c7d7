use Rattle.larch_session_trail.proofs.States.{refused_so}
use Rattle.larch_session_trail.proofs.carrying.is_refused.Goals as goal

pub returns : goal.returns
returns c =
    refused_so c.args.state.now c.in_ok-outcome.outcome c.is_refusal.result c.is_refusal.ensures
    c.in_ok-outcome.ensures
