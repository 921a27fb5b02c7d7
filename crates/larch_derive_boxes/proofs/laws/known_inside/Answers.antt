use Rattle.larch_derive_boxes.proofs.Inside.{known_outside, known_own, known_replaced, opened_known_inside}
use Rattle.larch_derive_boxes.proofs.laws.known_inside.Goals as goal

pub returns : goal.returns
returns c =
    record {
      outside = known_outside;
      own = known_own;
      replaced = known_replaced;
      opened = opened_known_inside;
    }
