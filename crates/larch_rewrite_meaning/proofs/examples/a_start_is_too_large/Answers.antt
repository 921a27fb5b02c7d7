use Rattle.std.specs.Prelude.{refl}
use Rattle.larch_rewrite_meaning.specs.Examples.{normalising}
use Rattle.larch_rewrite_meaning.proofs.examples.a_start_is_too_large.Goals as goal

pub returns : goal.returns
unfolding normalising
returns c = refl
