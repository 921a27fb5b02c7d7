use Rattle.std.specs.Prelude.{refl}
use Rattle.larch_prove_meaning.specs.Computing.{replaying}
use Rattle.larch_prove_examples.proofs.refusals.what_is_not_instantiated.Goals as goal

pub returns-clause-fact : goal.returns-clause-fact
unfolding replaying
returns-clause-fact c = refl

pub returns-clause-clause : goal.returns-clause-clause
unfolding replaying
returns-clause-clause c = refl

pub returns-clause-variable : goal.returns-clause-variable
unfolding replaying
returns-clause-variable c = refl

pub returns-clause-reading : goal.returns-clause-reading
unfolding replaying
returns-clause-reading c = refl

pub returns-clause-other_sort : goal.returns-clause-other_sort
unfolding replaying
returns-clause-other_sort c = refl

pub returns-clause-reading_of_the_first : goal.returns-clause-reading_of_the_first
unfolding replaying
returns-clause-reading_of_the_first c = refl

pub returns-clause-variable_of_the_first : goal.returns-clause-variable_of_the_first
unfolding replaying
returns-clause-variable_of_the_first c = refl

pub returns-clause-twice : goal.returns-clause-twice
unfolding replaying
returns-clause-twice c = refl
