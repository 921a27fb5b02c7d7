use Rattle.larch_pairs.proofs.Solving.{rounds_suffice}
use Rattle.larch_pairs.proofs.laws.rounds_suffice.Goals as goal

pub returns : goal.returns
returns c = rounds_suffice
