use Rattle.larch_prove_boxes.proofs.Ended.{closed_is, closed_there}
use Rattle.larch_prove_boxes.proofs.implication.closed_goal.Goals as goal

pub unreachable-requires : goal.unreachable-requires
unreachable-requires c =
    closed_there c.args.goal.now c.requires.0 c.requires.1.0 c.args.constants.now _ c.requires.1.1
    c.in_ok-closed.ensures c.in-None.is

pub returns : goal.returns
returns c p q e =
    closed_is c.args.goal.now p q _ c.args.constants.now _ e c.in_ok-closed.ensures c.in-Some.is
