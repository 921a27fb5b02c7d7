use Rattle.std.specs.Prelude.{refl}
use Rattle.larch_rewrite_meaning.specs.Examples.{normalising}
use Rattle.larch_rewrite_meaning.proofs.examples.an_application_is_too_large.Goals as goal

pub returns-clause-limit : goal.returns-clause-limit
unfolding normalising
returns-clause-limit c = refl

pub returns-clause-size : goal.returns-clause-size
unfolding normalising
returns-clause-size c = refl
