use Rattle.std.proofs.Common.{refl}
use Rattle.std.specs.Fmt.{digits}
use Rattle.larch_certificate.specs.TermEquality.{same_tree, same_statement}
use Rattle.larch_certificate.specs.TermOperatorKey.{same_operator}
use Rattle.larch_verify_meaning.proofs.examples.generation_is_shown.Goals as goal

pub returns : goal.returns
unfolding same_operator same_tree same_statement digits
returns c = record { generated = refl; one_left_out = refl; other_range = refl }
