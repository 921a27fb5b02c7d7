use Rattle.larch_prove_invariant.proofs.Begin.{subgoals_may_begin}
use Rattle.larch_prove_invariant.proofs.Held.{method_begun, subgoal_follows}
use Rattle.larch_prove_invariant.proofs.levels.methods_run.Goals as goal

pub returns : goal.returns
returns c = record { begins = method_begun; opens = subgoals_may_begin; follows = subgoal_follows }
