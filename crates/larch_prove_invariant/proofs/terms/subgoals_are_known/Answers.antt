use Rattle.larch_prove_invariant.proofs.Planned.{goal_known, subgoal_known}
use Rattle.larch_prove_invariant.proofs.terms.subgoals_are_known.Goals as goal

pub returns : goal.returns
returns c = record { goal = goal_known; subgoal = subgoal_known }
