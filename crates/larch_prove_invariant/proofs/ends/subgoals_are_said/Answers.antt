use Rattle.larch_prove_invariant.proofs.PartitionEnd.{observations_said}
use Rattle.larch_prove_invariant.proofs.Said.{contradiction_said, implication_closed, implication_known}
use Rattle.larch_prove_invariant.proofs.ends.subgoals_are_said.Goals as goal

pub returns : goal.returns
returns c = record {
  implication = implication_known;
  closed = implication_closed;
  contradiction = contradiction_said;
  observation = observations_said;
}
