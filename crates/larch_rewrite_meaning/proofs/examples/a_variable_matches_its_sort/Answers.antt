use Rattle.std.specs.Prelude.{refl}
use Rattle.larch_rewrite_meaning.specs.Examples.{normalising}
use Rattle.larch_rewrite_meaning.proofs.examples.a_variable_matches_its_sort.Goals as goal

pub returns-clause-matched : goal.returns-clause-matched
unfolding normalising
returns-clause-matched c = refl

pub returns-clause-other : goal.returns-clause-other
unfolding normalising
returns-clause-other c = refl
