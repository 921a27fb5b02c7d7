use Rattle.larch_term_law.proofs.Substitutions.{at_substituted, at_substituted_further, substituted_put}
use Rattle.larch_term_law.proofs.laws.substituted_places.Goals as goal

pub returns : goal.returns
returns c = record { kept = at_substituted; further = at_substituted_further; put = substituted_put }
