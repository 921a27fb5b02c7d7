use Rattle.larch_certificate.proofs.CodedLists.{coded_list_of_forest_of, coded_forest_of_list_of, same_coded_parts}
use Rattle.larch_certificate.proofs.laws.coded_lists_are_arguments.Goals as goal

pub returns : goal.returns
returns c = record { list = coded_list_of_forest_of; arguments = coded_forest_of_list_of; parts = same_coded_parts }
