use Rattle.std.specs.Prelude.{refl}
use Rattle.larch_prove_meaning.specs.Computing.{replaying}
use Rattle.larch_prove_examples.proofs.refusals.what_has_no_reading.Goals as goal

pub returns-clause-undeclared : goal.returns-clause-undeclared
unfolding replaying
returns-clause-undeclared c = refl

pub returns-clause-several : goal.returns-clause-several
unfolding replaying
returns-clause-several c = refl

pub returns-clause-qualified : goal.returns-clause-qualified
unfolding replaying
returns-clause-qualified c = refl

pub returns-clause-unknown_sort : goal.returns-clause-unknown_sort
unfolding replaying
returns-clause-unknown_sort c = refl

pub returns-clause-case : goal.returns-clause-case
unfolding replaying
returns-clause-case c = refl

pub returns-clause-no_formula : goal.returns-clause-no_formula
unfolding replaying
returns-clause-no_formula c = refl
