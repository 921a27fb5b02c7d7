use Rattle.larch_flat_meaning.proofs.Sizes.{operators_grow, own_refused, too_many}
use Rattle.larch_flat_meaning.proofs.laws.too_many_operators_are_certain.Goals as goal

pub returns-clause-grow : goal.returns-clause-grow
returns-clause-grow c fs g = operators_grow fs g.operators

pub returns-clause-size : goal.returns-clause-size
returns-clause-size c = too_many

pub returns-clause-refused : goal.returns-clause-refused
returns-clause-refused c = own_refused
