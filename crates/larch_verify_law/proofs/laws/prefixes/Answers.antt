use Rattle.larch_verify_law.proofs.Prefixes.{prefix_accepts, run_goes}
use Rattle.larch_verify_law.proofs.laws.prefixes.Goals as goal

pub returns : goal.returns
returns c = record { accepted = prefix_accepts; run = run_goes }
