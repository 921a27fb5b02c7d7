use Rattle.std.specs.Prelude.{refl}
use Rattle.larch_prove_meaning.specs.Computing.{replaying}
use Rattle.larch_prove_examples.proofs.reports.blocks_of_no_duty.Goals as goal

pub returns : goal.returns
unfolding replaying
returns c = refl
