-- What goes on, of the duty's claim.
use Rattle.larch_prove.proofs.beginning.start.Goals as goal

pub start_claim-requires-clause-claim : goal.start_claim-requires-clause-claim
start_claim-requires-clause-claim c = record {
  theory = c.in_ok-claim.ensures.theory;
  statement = c.in_ok-claim.ensures.statement;
}
