use Rattle.std.proofs.Common.{◌∙◌}
use Rattle.larch_import.specs.ByWords.{move_of}
use Rattle.larch_import.proofs.Moving.{one_more}
use Rattle.larch_import.proofs.item.move_items.Goals as goal

pub loop-item-preserved : goal.loop-item-preserved
loop-item-preserved g c =
    c.in_ok-push.ensures.ok
    ∙ one_more (g.T.Item.moves (move_of c.args.words.now)) c.loop-item.moved c.args.items.now c.loop-item.item-index
    c.item-item.result c.in_ok-item.item c.loop-item-test.true c.item-item.is c.in_ok-item.ensures
    c.loop-item.invariant
