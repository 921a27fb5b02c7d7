use Rattle.larch_derive_boxes.proofs.Inside.{may_suppose_inside, may_suppose_own}
use Rattle.larch_derive_boxes.proofs.laws.supposing_inside.Goals as goal

pub returns : goal.returns
returns c =
    record { equation = may_suppose_inside; own = may_suppose_own }
