use Rattle.larch_methods.proofs.Left.{cases_left, conjunction_left, contradiction_left, implication_left}
use Rattle.larch_methods.proofs.Left.{induction_left, partition_left}
use Rattle.larch_methods.proofs.laws.subgoals_show.Goals as goal

pub returns : goal.returns
returns c =
    record {
      cases = cases_left;
      implication = implication_left;
      contradiction = contradiction_left;
      conjunction = conjunction_left;
      induction = induction_left;
      partition = partition_left;
    }
