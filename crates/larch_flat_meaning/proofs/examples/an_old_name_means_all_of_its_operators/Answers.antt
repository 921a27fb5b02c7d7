use Rattle.std.proofs.Common.{refl}
use Rattle.larch_flat_meaning.specs.Examples.{computing}
use Rattle.larch_flat_meaning.proofs.examples.an_old_name_means_all_of_its_operators.Goals as goal

pub returns-clause-bare : goal.returns-clause-bare
unfolding computing
returns-clause-bare c = refl

pub returns-clause-signed : goal.returns-clause-signed
unfolding computing
returns-clause-signed c = refl
