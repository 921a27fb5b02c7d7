use Rattle.std.specs.Prelude.{refl}
use Rattle.larch_complete_meaning.specs.Computing.{completing}
use Rattle.larch_complete_meaning.proofs.examples.a_budget_is_for_both_sides.Goals as goal

pub returns : goal.returns
unfolding completing
returns c = refl
