use Rattle.std.specs.Prelude.{refl}
use Rattle.larch_rewrite_meaning.specs.Examples.{normalising}
use Rattle.larch_rewrite_meaning.proofs.examples.an_equality_is_exchanged.Goals as goal

pub returns : goal.returns
unfolding normalising
returns c = refl
