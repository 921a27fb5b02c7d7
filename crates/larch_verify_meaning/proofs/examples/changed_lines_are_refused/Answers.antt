use Rattle.std.proofs.Common.{refl}
use Rattle.larch_certificate.specs.TermEquality.{same_tree, same_statement}
use Rattle.larch_certificate.specs.TermOperatorKey.{same_operator}
use Rattle.larch_verify_meaning.proofs.examples.changed_lines_are_refused.Goals as goal

pub returns : goal.returns
unfolding same_operator same_tree same_statement
returns c =
    record {
      no_statement = refl;
      ill_sorted = refl;
      no_operator = refl;
      twice = refl;
      later = refl;
      no_constant = refl;
      no_hypothesis = refl;
      at_root = refl;
      left_side = refl;
    }
