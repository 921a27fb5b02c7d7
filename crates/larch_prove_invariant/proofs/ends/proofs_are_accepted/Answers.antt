use Rattle.larch_prove_invariant.proofs.Left.{end_accepted, end_clause, end_equation}
use Rattle.larch_prove_invariant.proofs.ends.proofs_are_accepted.Goals as goal

pub returns : goal.returns
returns c = record { accepted = end_accepted; equation = end_equation; clause = end_clause }
