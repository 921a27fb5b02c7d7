use Rattle.larch_prove_levels.proofs.Rises.{next_refused}
use Rattle.larch_prove_levels.proofs.laws.next_subgoals_are_opened.Goals as goal

pub returns-clause-refused : goal.returns-clause-refused
returns-clause-refused c = next_refused
