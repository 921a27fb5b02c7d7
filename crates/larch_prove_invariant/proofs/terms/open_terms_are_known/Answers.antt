use Rattle.larch_prove_invariant.proofs.Knowing.{known_over, open_known}
use Rattle.larch_prove_invariant.proofs.Planned.{levels_known}
use Rattle.larch_prove_invariant.proofs.terms.open_terms_are_known.Goals as goal

pub returns : goal.returns
returns c = record { builder = open_known; levels = levels_known; no_others = known_over }
