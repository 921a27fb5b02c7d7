-- The part between the heights is rotated.
use Rattle.std.proofs.Common.{refl, ◌+◌, ◌-◌}
use Rattle.larch_order.proofs.Heights.{moved_up}
use Rattle.larch_order.proofs.precedence.move_up.Goals as goal

pub returns : goal.returns
returns c d =
    moved_up c.args.ranks.now c.args.from c.args.to
    (c.args.to + 1 - c.args.from) c.rotate_left.new.self d c.requires.0 c.requires.1 refl
    c.rotate_left.ensures.after
