use Rattle.std.proofs.Common.{refl}
use Rattle.std.specs.Fmt.{digits}
use Rattle.larch_certificate.specs.TermEquality.{same_tree, same_statement}
use Rattle.larch_certificate.specs.TermOperatorKey.{same_operator}
use Rattle.larch_verify_meaning.proofs.examples.partition_is_used_and_shown.Goals as goal

pub returns : goal.returns
unfolding same_operator same_tree same_statement digits
returns c =
    record { observed = refl; unobserved = refl; variable_occurs = refl; partitioned = refl; other_variable = refl }
