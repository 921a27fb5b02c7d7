use Rattle.std.specs.Prelude.{refl}
use Rattle.larch_prove_meaning.specs.Computing.{replaying}
use Rattle.larch_prove_examples.proofs.refusals.registered_statuses.Goals as goal

pub returns-clause-default : goal.returns-clause-default
unfolding replaying
returns-clause-default c = refl

pub returns-clause-left_to_right : goal.returns-clause-left_to_right
unfolding replaying
returns-clause-left_to_right c = refl

pub returns-clause-right_to_left : goal.returns-clause-right_to_left
unfolding replaying
returns-clause-right_to_left c = refl

pub returns-clause-multiset : goal.returns-clause-multiset
unfolding replaying
returns-clause-multiset c = refl
