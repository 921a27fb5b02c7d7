use Rattle.std.specs.Prelude.{refl}
use Rattle.larch_prove_meaning.specs.Computing.{replaying}
use Rattle.larch_prove_examples.proofs.reports.refused_openings.Goals as goal

pub returns-clause-block : goal.returns-clause-block
unfolding replaying
returns-clause-block c = refl

pub returns-clause-moved : goal.returns-clause-moved
unfolding replaying
returns-clause-moved c = refl

pub returns-clause-no_block : goal.returns-clause-no_block
unfolding replaying
returns-clause-no_block c = refl
