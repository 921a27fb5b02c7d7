use Rattle.std.specs.Prelude.{refl}
use Rattle.larch_prove_meaning.specs.Computing.{replaying}
use Rattle.larch_prove_examples.proofs.refusals.what_is_not_declared.Goals as goal

pub returns-clause-unknown_sort : goal.returns-clause-unknown_sort
unfolding replaying
returns-clause-unknown_sort c = refl

pub returns-clause-other_sort : goal.returns-clause-other_sort
unfolding replaying
returns-clause-other_sort c = refl

pub returns-clause-sort_comes_first : goal.returns-clause-sort_comes_first
unfolding replaying
returns-clause-sort_comes_first c = refl

pub returns-clause-declared_before : goal.returns-clause-declared_before
unfolding replaying
returns-clause-declared_before c = refl

pub returns-clause-one_of_several : goal.returns-clause-one_of_several
unfolding replaying
returns-clause-one_of_several c = refl

pub returns-clause-constant : goal.returns-clause-constant
unfolding replaying
returns-clause-constant c = refl
