use Rattle.std.specs.Prelude.{refl}
use Rattle.larch_prove_meaning.specs.Computing.{replaying}
use Rattle.larch_prove_examples.proofs.order.preambles.Goals as goal

pub returns-clause-declared : goal.returns-clause-declared
unfolding replaying
returns-clause-declared c = refl

pub returns-clause-goal_comes_first : goal.returns-clause-goal_comes_first
unfolding replaying
returns-clause-goal_comes_first c = refl

pub returns-clause-end : goal.returns-clause-end
unfolding replaying
returns-clause-end c = refl

pub returns-clause-formula : goal.returns-clause-formula
unfolding replaying
returns-clause-formula c = refl

pub returns-clause-mark : goal.returns-clause-mark
unfolding replaying
returns-clause-mark c = refl

pub returns-clause-line : goal.returns-clause-line
unfolding replaying
returns-clause-line c = refl

pub returns-clause-bytes : goal.returns-clause-bytes
unfolding replaying
returns-clause-bytes c = refl

pub returns-clause-sort : goal.returns-clause-sort
unfolding replaying
returns-clause-sort c = refl

pub returns-clause-operator : goal.returns-clause-operator
unfolding replaying
returns-clause-operator c = refl
