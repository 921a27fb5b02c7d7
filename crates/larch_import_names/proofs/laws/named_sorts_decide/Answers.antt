use Rattle.larch_import_names.proofs.Agreement.{same_operator_by, same_renamed}
use Rattle.larch_import_names.proofs.laws.named_sorts_decide.Goals as goal

pub returns-clause-operator : goal.returns-clause-operator
returns-clause-operator c = same_operator_by

pub returns-clause-statement : goal.returns-clause-statement
returns-clause-statement c = same_renamed
