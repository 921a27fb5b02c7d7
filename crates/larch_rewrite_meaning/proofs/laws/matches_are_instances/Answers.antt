use Rattle.larch_rewrite_meaning.proofs.Matches.{match_is_right, match_fits}
use Rattle.larch_rewrite_meaning.proofs.laws.matches_are_instances.Goals as goal

pub returns-clause-instance : goal.returns-clause-instance
returns-clause-instance c p t es h = match_is_right p t es h

pub returns-clause-fits : goal.returns-clause-fits
returns-clause-fits c p t es w h = match_fits p t es w h
