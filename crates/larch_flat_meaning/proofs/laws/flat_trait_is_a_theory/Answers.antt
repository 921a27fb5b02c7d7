use Rattle.larch_flat_meaning.proofs.Theory.{flat_theory}
use Rattle.larch_flat_meaning.proofs.laws.flat_trait_is_a_theory.Goals as goal

pub returns : goal.returns
returns c = flat_theory
