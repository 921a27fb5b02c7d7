use Rattle.std.specs.Prelude.{refl}
use Rattle.larch_prove_meaning.specs.Computing.{replaying}
use Rattle.larch_prove_examples.proofs.refusals.pairs_in_turn.Goals as goal

pub returns-clause-proved_by_the_first : goal.returns-clause-proved_by_the_first
unfolding replaying
returns-clause-proved_by_the_first c = refl

pub returns-clause-rest_takes_no_number : goal.returns-clause-rest_takes_no_number
unfolding replaying
returns-clause-rest_takes_no_number c = refl

pub returns-clause-each_takes_a_number : goal.returns-clause-each_takes_a_number
unfolding replaying
returns-clause-each_takes_a_number c = refl

pub returns-clause-no_more : goal.returns-clause-no_more
unfolding replaying
returns-clause-no_more c = refl

pub returns-clause-without_the_root : goal.returns-clause-without_the_root
unfolding replaying
returns-clause-without_the_root c = refl
