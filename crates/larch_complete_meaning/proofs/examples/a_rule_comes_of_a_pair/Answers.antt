use Rattle.std.specs.Prelude.{refl}
use Rattle.larch_complete_meaning.specs.Computing.{completing}
use Rattle.larch_complete_meaning.proofs.examples.a_rule_comes_of_a_pair.Goals as goal

pub returns : goal.returns
unfolding completing
returns c = refl
