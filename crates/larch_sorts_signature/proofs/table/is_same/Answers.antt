use Rattle.larch_term.proofs.Decided.{trees_told}
use Rattle.larch_sorts_signature.proofs.table.is_same.Goals as goal

pub returns : goal.returns
returns c = trees_told c.args.left.now c.args.right.now c.same_reading.result c.same_reading.ensures
