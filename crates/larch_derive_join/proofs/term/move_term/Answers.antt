use Rattle.larch_derive_join.proofs.Moving.{first_stays}
use Rattle.larch_derive_join.proofs.term.move_term.Goals as goal

pub returns-then-shift-eq0 : goal.returns-then-shift-eq0
returns-then-shift-eq0 c =
    first_stays c.args.shift.now c.args.term.now c.copy.result c.if-shift-eq0.true c.copy.ensures
