use Rattle.std.specs.Prelude.{refl}
use Rattle.larch_prove_meaning.specs.Computing.{replaying}
use Rattle.larch_prove_examples.proofs.refusals.shapes_and_clauses.Goals as goal

pub returns-clause-implication : goal.returns-clause-implication
unfolding replaying
returns-clause-implication c = refl

pub returns-clause-conjunction : goal.returns-clause-conjunction
unfolding replaying
returns-clause-conjunction c = refl

pub returns-clause-equality : goal.returns-clause-equality
unfolding replaying
returns-clause-equality c = refl

pub returns-clause-partitioned : goal.returns-clause-partitioned
unfolding replaying
returns-clause-partitioned c = refl

pub returns-clause-variable : goal.returns-clause-variable
unfolding replaying
returns-clause-variable c = refl

pub returns-clause-generated : goal.returns-clause-generated
unfolding replaying
returns-clause-generated c = refl
