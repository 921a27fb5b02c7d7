use Rattle.larch_prove_invariant.proofs.Firsts.{closing_stays, extra_own, first_known}
use Rattle.larch_prove_invariant.proofs.Instances.{equation_sorts}
use Rattle.larch_prove_invariant.proofs.terms.first_goals_are_known.Goals as goal

pub returns : goal.returns
returns c = record { known = first_known; own = extra_own; stays = closing_stays; sorts = equation_sorts }
