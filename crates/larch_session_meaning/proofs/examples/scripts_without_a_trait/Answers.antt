use Rattle.std.proofs.Common.{refl}
use Rattle.larch_session_meaning.specs.Examples.{reporting}
use Rattle.larch_session_meaning.proofs.examples.scripts_without_a_trait.Goals as goal

pub returns : goal.returns
unfolding reporting
returns c = refl
