use Rattle.std.specs.Prelude.{refl}
use Rattle.larch_prove_meaning.specs.Computing.{replaying}
use Rattle.larch_prove_examples.proofs.refusals.registered_heights.Goals as goal

pub returns-clause-default : goal.returns-clause-default
unfolding replaying
returns-clause-default c = refl

pub returns-clause-above : goal.returns-clause-above
unfolding replaying
returns-clause-above c = refl

pub returns-clause-already_above : goal.returns-clause-already_above
unfolding replaying
returns-clause-already_above c = refl

pub returns-clause-behind_it : goal.returns-clause-behind_it
unfolding replaying
returns-clause-behind_it c = refl
