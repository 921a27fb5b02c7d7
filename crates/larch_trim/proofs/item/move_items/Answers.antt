use Rattle.std.proofs.Common.{[], ◌∙◌}
use Rattle.larch_trim.specs.ByNumbers.{move_of}
use Rattle.larch_trim.proofs.Moving.{one_more}
use Rattle.larch_trim.proofs.item.move_items.Goals as goal

pub loop-item-preserved : goal.loop-item-preserved
loop-item-preserved g c =
    c.in_ok-push.ensures.ok
    ∙ one_more (g.T.Item.moves (move_of c.args.numbers.now)) [] c.loop-item.moved c.args.items.now
    c.loop-item.item-index
    c.item-item.result c.in_ok-item.item c.loop-item-test.true c.item-item.is c.in_ok-item.ensures
    c.loop-item.invariant
