use Rattle.std.specs.Prelude.{refl}
use Rattle.larch_prove_meaning.specs.Computing.{replaying}
use Rattle.larch_prove_examples.proofs.refusals.facts_by_name.Goals as goal

pub returns-clause-first_of_pair : goal.returns-clause-first_of_pair
unfolding replaying
returns-clause-first_of_pair c = refl

pub returns-clause-second_of_pair : goal.returns-clause-second_of_pair
unfolding replaying
returns-clause-second_of_pair c = refl

pub returns-clause-number : goal.returns-clause-number
unfolding replaying
returns-clause-number c = refl

pub returns-clause-part : goal.returns-clause-part
unfolding replaying
returns-clause-part c = refl

pub returns-clause-first_part : goal.returns-clause-first_part
unfolding replaying
returns-clause-first_part c = refl

pub returns-clause-letter : goal.returns-clause-letter
unfolding replaying
returns-clause-letter c = refl

pub returns-clause-taken_out : goal.returns-clause-taken_out
unfolding replaying
returns-clause-taken_out c = refl
