use Rattle.larch_prove_boxes.proofs.Ended.{none_shared}
use Rattle.larch_prove_boxes.proofs.lefts.shared_box.Goals as goal

pub unreachable-requires : goal.unreachable-requires
unreachable-requires c = none_shared c.args.shared (λ y. y.now) c.requires.0 c.in_default.is c.requires.1
