use Rattle.std.proofs.Common.{refl}
use Rattle.larch_term.specs.BuiltIn.{is_built_in}
use Rattle.larch_term.specs.Equality.{same_tree, same_statement}
use Rattle.larch_term.specs.OperatorKey.{same_operator}
use Rattle.larch_import_names.specs.Names.{operator_by}
use Rattle.larch_import_meaning.proofs.examples.sums_are_counts.Goals as goal

pub returns : goal.returns
unfolding is_built_in operator_by same_operator same_tree same_statement
returns c = record { statement = refl; accepted = refl }
