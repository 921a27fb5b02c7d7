use Rattle.larch_flat_meaning.proofs.Reached.{agree_from, flat_same, reached_same}
use Rattle.larch_flat_meaning.proofs.laws.what_is_reached_decides.Goals as goal

pub returns-clause-reached : goal.returns-clause-reached
returns-clause-reached c = reached_same

pub returns-clause-agree : goal.returns-clause-agree
returns-clause-agree c = agree_from

pub returns-clause-flat : goal.returns-clause-flat
returns-clause-flat c = flat_same
