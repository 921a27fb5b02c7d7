use Rattle.std.proofs.Common.{refl}
use Rattle.larch_session_meaning.specs.Examples.{reporting}
use Rattle.larch_session_meaning.proofs.examples.blocks_are_named_by_duties.Goals as goal

pub returns : goal.returns
unfolding reporting
returns c = refl
