use Rattle.std.specs.Prelude.{refl}
use Rattle.larch_prove_meaning.specs.Computing.{replaying}
use Rattle.larch_prove_examples.proofs.examples.a_waiting_mark_comes_first.Goals as goal

pub returns : goal.returns
unfolding replaying
returns c = refl
