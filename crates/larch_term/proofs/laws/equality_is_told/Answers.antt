use Rattle.larch_term.proofs.Decided.{name_Decides, operator_Decides, tree_Decides, statement_Decides}
use Rattle.larch_term.proofs.laws.equality_is_told.Goals as goal

pub returns : goal.returns
returns c =
    record { name = name_Decides; operator = operator_Decides; term = tree_Decides; statement = statement_Decides }
