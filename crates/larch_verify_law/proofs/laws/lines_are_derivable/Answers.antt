use Rattle.larch_verify_law.proofs.Accepted.{context_sorted, named_derivable, result_derivable}
use Rattle.larch_verify_law.proofs.laws.lines_are_derivable.Goals as goal

pub returns : goal.returns
returns c = record { context = context_sorted; named = named_derivable; results = result_derivable }
