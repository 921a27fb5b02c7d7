use Rattle.larch_pairs.proofs.Solving.{unifier_different, unifier_once, unifier_unifies}
use Rattle.larch_pairs.proofs.laws.unifiers_unify.Goals as goal

pub returns-clause-unifies : goal.returns-clause-unifies
returns-clause-unifies c = unifier_unifies

pub returns-clause-once : goal.returns-clause-once
returns-clause-once c = unifier_once

pub returns-clause-different : goal.returns-clause-different
returns-clause-different c = unifier_different
