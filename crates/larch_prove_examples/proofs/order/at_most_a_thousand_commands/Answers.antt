use Rattle.std.specs.Prelude.{refl}
use Rattle.larch_prove_meaning.specs.Computing.{replaying}
use Rattle.larch_prove_examples.proofs.order.at_most_a_thousand_commands.Goals as goal

pub returns-clause-last : goal.returns-clause-last
unfolding replaying
returns-clause-last c = refl

pub returns-clause-one_more : goal.returns-clause-one_more
unfolding replaying
returns-clause-one_more c = refl
