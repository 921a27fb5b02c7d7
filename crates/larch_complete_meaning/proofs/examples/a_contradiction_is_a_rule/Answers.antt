use Rattle.std.specs.Prelude.{refl}
use Rattle.larch_complete_meaning.specs.Computing.{completing}
use Rattle.larch_complete_meaning.proofs.examples.a_contradiction_is_a_rule.Goals as goal

pub returns : goal.returns
unfolding completing
returns c = refl
