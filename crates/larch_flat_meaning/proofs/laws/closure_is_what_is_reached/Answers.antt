use Rattle.larch_flat_meaning.proofs.Closures.{closure_tells}
use Rattle.larch_flat_meaning.proofs.laws.closure_is_what_is_reached.Goals as goal

pub returns : goal.returns
returns c = closure_tells
