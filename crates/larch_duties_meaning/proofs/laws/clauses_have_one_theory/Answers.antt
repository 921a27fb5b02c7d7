use Rattle.larch_duties_meaning.proofs.OneTheory.{one_theory}
use Rattle.larch_duties_meaning.proofs.laws.clauses_have_one_theory.Goals as goal

pub returns : goal.returns
returns c = one_theory
