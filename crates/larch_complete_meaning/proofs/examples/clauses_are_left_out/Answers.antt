use Rattle.std.specs.Prelude.{refl}
use Rattle.larch_complete_meaning.specs.Computing.{completing}
use Rattle.larch_complete_meaning.proofs.examples.clauses_are_left_out.Goals as goal

pub returns : goal.returns
unfolding completing
returns c = refl
