use Rattle.larch_prove_invariant.proofs.MethodEnds.{cases_end, conjunction_end, contradiction_end, implication_end}
use Rattle.larch_prove_invariant.proofs.MethodEnds.{induction_end}
use Rattle.larch_prove_invariant.proofs.PartitionEnd.{partition_end}
use Rattle.larch_prove_invariant.proofs.ends.methods_end.Goals as goal

pub returns : goal.returns
returns c = record {
  cases = cases_end;
  implication = implication_end;
  contradiction = contradiction_end;
  conjunction = conjunction_end;
  induction = induction_end;
  partition = partition_end;
}
