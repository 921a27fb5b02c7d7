use Rattle.larch_term.proofs.TreeLists.{list_of-forest_of, forest_of-list_of, same_parts}
use Rattle.larch_term.proofs.laws.lists_are_arguments.Goals as goal

pub returns : goal.returns
returns c = record { list = list_of-forest_of; arguments = forest_of-list_of; parts = same_parts }
