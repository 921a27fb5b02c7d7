use Rattle.larch_derive.proofs.Accepting.{equation_finished, clause_finished}
use Rattle.larch_derive.proofs.laws.finishing.Goals as goal

pub returns : goal.returns
returns c = record { equation = equation_finished; clause = clause_finished }
