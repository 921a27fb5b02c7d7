use Rattle.larch_calculus.proofs.Observed.{partition_over, observations_of_terms}
use Rattle.larch_calculus.proofs.Sorted.{generation_over, suppositions_over}
use Rattle.larch_calculus.proofs.laws.suppositions.Goals as goal

pub returns : goal.returns
returns c =
    record {
      generation = λ t p s fs d r w. generation_over t p s fs w d r;
      induction = λ t x s a b cs k w. suppositions_over t x s a b cs w k;
      partition = λ t names s os c d k e f w. partition_over t names s os c d w k e f;
      observation = observations_of_terms;
    }
