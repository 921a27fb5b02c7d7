use Rattle.std.proofs.Common.{refl}
use Rattle.larch_shorthand.specs.Examples.{computing}
use Rattle.larch_shorthand.proofs.examples.a_tuple_is_made_got_and_set.Goals as goal

pub returns-clause-two : goal.returns-clause-two
unfolding computing
returns-clause-two c = refl

pub returns-clause-one : goal.returns-clause-one
unfolding computing
returns-clause-one c = refl

pub returns-clause-twice : goal.returns-clause-twice
unfolding computing
returns-clause-twice c = refl
