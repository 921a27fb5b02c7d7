use Rattle.std.specs.Prelude.{refl}
use Rattle.larch_prove_meaning.specs.Computing.{replaying}
use Rattle.larch_prove_examples.proofs.reports.lemmas_of_conversions.Goals as goal

pub returns-clause-another_clause : goal.returns-clause-another_clause
unfolding replaying
returns-clause-another_clause c = refl

pub returns-clause-one_clause : goal.returns-clause-one_clause
unfolding replaying
returns-clause-one_clause c = refl
