use Rattle.larch_verify_law.proofs.Verdicts.{one_statement}
use Rattle.larch_verify_law.proofs.laws.one_statement.Goals as goal

pub returns : goal.returns
returns c = one_statement
