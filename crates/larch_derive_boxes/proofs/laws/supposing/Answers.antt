use Rattle.larch_derive_boxes.proofs.Supposing.{opens_is_open, grown_open, opened_open}
use Rattle.larch_derive_boxes.proofs.laws.supposing.Goals as goal

pub returns : goal.returns
returns c = record { opened = opens_is_open; grown = grown_open; inside = opened_open }
