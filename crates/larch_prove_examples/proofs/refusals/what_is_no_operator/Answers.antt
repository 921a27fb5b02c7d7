use Rattle.std.specs.Prelude.{refl}
use Rattle.larch_prove_meaning.specs.Computing.{replaying}
use Rattle.larch_prove_examples.proofs.refusals.what_is_no_operator.Goals as goal

pub returns-clause-nothing : goal.returns-clause-nothing
unfolding replaying
returns-clause-nothing c = refl

pub returns-clause-nothing_below : goal.returns-clause-nothing_below
unfolding replaying
returns-clause-nothing_below c = refl

pub returns-clause-built_in : goal.returns-clause-built_in
unfolding replaying
returns-clause-built_in c = refl

pub returns-clause-other_sorts : goal.returns-clause-other_sorts
unfolding replaying
returns-clause-other_sorts c = refl

pub returns-clause-two : goal.returns-clause-two
unfolding replaying
returns-clause-two c = refl

pub returns-clause-one_of_two : goal.returns-clause-one_of_two
unfolding replaying
returns-clause-one_of_two c = refl
