use Rattle.larch_flat_meaning.proofs.Reached.{depths_same}
use Rattle.larch_flat_meaning.proofs.laws.depths_tell_the_same.Goals as goal

pub returns : goal.returns
returns c = depths_same
