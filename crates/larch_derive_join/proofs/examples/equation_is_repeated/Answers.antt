use Rattle.std.proofs.Common.{refl}
use Rattle.larch_term.specs.Equality.{same_tree, same_statement}
use Rattle.larch_term.specs.OperatorKey.{same_operator}
use Rattle.larch_derive_join.proofs.examples.equation_is_repeated.Goals as goal

pub returns : goal.returns
unfolding same_operator same_tree same_statement
returns c = record { lines = refl; accepted = refl }
