use Rattle.larch_derive_boxes.proofs.Knowing.{constant_known}
use Rattle.larch_derive_boxes.proofs.laws.knowing.Goals as goal

pub returns : goal.returns
returns c = constant_known
