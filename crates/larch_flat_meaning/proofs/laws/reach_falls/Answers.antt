use Rattle.larch_flat_meaning.proofs.Shrinking.{bounded, falls, falls_told}
use Rattle.larch_flat_meaning.proofs.laws.reach_falls.Goals as goal

pub returns-clause-reached : goal.returns-clause-reached
returns-clause-reached c = falls

pub returns-clause-told : goal.returns-clause-told
returns-clause-told c = falls_told

pub returns-clause-bounded : goal.returns-clause-bounded
returns-clause-bounded c = bounded
