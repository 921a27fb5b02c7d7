use Rattle.larch_methods.proofs.Begun.{cases_begin, contradiction_begins, implication_begins, induction_begins}
use Rattle.larch_methods.proofs.Begun.{partition_begins}
use Rattle.larch_methods.proofs.laws.subgoals_begin.Goals as goal

pub returns : goal.returns
returns c =
    record {
      cases = cases_begin;
      implication = implication_begins;
      contradiction = contradiction_begins;
      induction = induction_begins;
      partition = partition_begins;
    }
