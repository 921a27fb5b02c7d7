use Rattle.std.specs.Prelude.{refl}
use Rattle.larch_rewrite_meaning.specs.Examples.{normalising}
use Rattle.larch_rewrite_meaning.proofs.examples.a_budget_is_too_small.Goals as goal

pub returns : goal.returns
unfolding normalising
returns c = refl
