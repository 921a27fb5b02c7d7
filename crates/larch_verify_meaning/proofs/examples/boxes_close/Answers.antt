use Rattle.std.proofs.Common.{refl}
use Rattle.larch_certificate.specs.TermEquality.{same_tree, same_statement}
use Rattle.larch_certificate.specs.TermOperatorKey.{same_operator}
use Rattle.larch_verify_meaning.proofs.examples.boxes_close.Goals as goal

pub returns : goal.returns
unfolding same_operator same_tree same_statement
returns c =
    record {
      lines = refl;
      hypotheses = refl;
      again = refl;
      nothing = refl;
      not_closed = refl;
      closed_last = refl;
      no_result = refl;
      no_box = refl;
    }
