use Rattle.larch_derive_boxes.proofs.Opening.{opened_said, opened_known, opened_stands, opened_boxes}
use Rattle.larch_derive_boxes.proofs.laws.inside.Goals as goal

pub returns : goal.returns
returns c =
    record { said = opened_said; known = opened_known; stands = opened_stands; boxes = opened_boxes }
