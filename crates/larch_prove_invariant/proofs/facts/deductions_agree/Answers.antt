use Rattle.larch_prove_invariant.proofs.Deduced.{deduced_follows, nothing_deduced}
use Rattle.larch_prove_invariant.proofs.Deducing.{follows_deduced}
use Rattle.larch_prove_invariant.proofs.facts.deductions_agree.Goals as goal

pub returns : goal.returns
returns c = record { follows = follows_deduced; deduced = deduced_follows; nothing = nothing_deduced }
