use Rattle.larch_term_law.proofs.Occurring.{listed_occurs, listed_once, variable_Decides}
use Rattle.larch_term_law.proofs.laws.variables_are_occurrences.Goals as goal

pub returns : goal.returns
returns c = record { members = listed_occurs; once = listed_once; test = variable_Decides }
