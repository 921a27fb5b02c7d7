use Rattle.larch_prove_invariant.proofs.Instances.{pair_entries, pair_sides}
use Rattle.larch_prove_invariant.proofs.facts.pairs_can_be_written.Goals as goal

pub returns : goal.returns
returns c = record { entries = pair_entries; sides = pair_sides }
