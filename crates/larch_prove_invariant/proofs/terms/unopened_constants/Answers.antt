use Rattle.larch_prove_invariant.proofs.Unopened.{next_unopened, unopened_known, unopened_own}
use Rattle.larch_prove_invariant.proofs.terms.unopened_constants.Goals as goal

pub returns : goal.returns
returns c = record { next = next_unopened; own = unopened_own; known = unopened_known }
