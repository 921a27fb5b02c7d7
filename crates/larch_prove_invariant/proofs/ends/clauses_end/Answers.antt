use Rattle.larch_prove_invariant.proofs.Entrances.{generation_ends, partition_ends}
use Rattle.larch_prove_invariant.proofs.ends.clauses_end.Goals as goal

pub returns : goal.returns
returns c = record { generation = generation_ends; partition = partition_ends }
