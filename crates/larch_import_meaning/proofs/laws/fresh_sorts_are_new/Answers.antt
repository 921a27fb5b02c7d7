use Rattle.larch_import_meaning.proofs.Fresh.{new_to_theory, new_to_pairs, new_to_truth_values}
use Rattle.larch_import_meaning.proofs.laws.fresh_sorts_are_new.Goals as goal

pub returns-clause-own : goal.returns-clause-own
returns-clause-own c = new_to_theory

pub returns-clause-pairs : goal.returns-clause-pairs
returns-clause-pairs c = new_to_pairs

pub returns-clause-truth_values : goal.returns-clause-truth_values
returns-clause-truth_values c = new_to_truth_values
