use Rattle.std.proofs.Common.{refl}
use Rattle.larch_certificate.specs.TermEquality.{same_tree, same_statement}
use Rattle.larch_certificate.specs.TermOperatorKey.{same_operator}
use Rattle.larch_verify_meaning.proofs.examples.other_boxes_are_refused.Goals as goal

pub returns : goal.returns
unfolding same_operator same_tree same_statement
returns c =
    record {
      predicate = refl;
      further_hypothesis = refl;
      not_closed = refl;
      one_left_out = refl;
      second_left_out = refl;
      one_too_many = refl;
      exchanged = refl;
    }
