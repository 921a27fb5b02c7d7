use Rattle.larch_term.proofs.Decided.{operators_told}
use Rattle.larch_sorts_signature.proofs.makers.is_same.Goals as goal

pub returns : goal.returns
returns c = operators_told c.args.left.now c.args.right.now c.same_operator.result c.same_operator.ensures
