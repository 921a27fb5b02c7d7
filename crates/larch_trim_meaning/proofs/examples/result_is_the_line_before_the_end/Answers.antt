use Rattle.std.proofs.Common.{refl}
use Rattle.larch_term.specs.Equality.{same_tree, same_statement}
use Rattle.larch_term.specs.OperatorKey.{same_operator}
use Rattle.larch_trim_meaning.proofs.examples.result_is_the_line_before_the_end.Goals as goal

pub returns : goal.returns
unfolding same_operator same_tree same_statement
returns c = refl
