use Rattle.larch_derive_boxes.proofs.Opening.{opens, may_suppose}
use Rattle.larch_derive_boxes.proofs.laws.opening.Goals as goal

pub returns : goal.returns
returns c = record { opens = opens; equation = may_suppose }
