use Rattle.larch_prove_invariant.proofs.Held.{holding_stands, holds_grows}
use Rattle.larch_prove_invariant.proofs.levels.growing_keeps_levels.Goals as goal

pub returns : goal.returns
returns c = record { levels = holds_grows; stands = holding_stands }
