-- The test tells exactly what is equal.
use Rattle.std.proofs.lemmas.Bool.Decides.{same_from_decides}
use Rattle.larch_term.specs.OperatorKey.{same_operator, operator_Decides}
use Rattle.larch_term.proofs.operator_key.OperatorPartialEq.eq.Goals as goal

pub returns : goal.returns
returns c =
    same_from_decides c.same_operator.result (same_operator c.args.self.now c.args.other.now) c.same_operator.ensures
    (operator_Decides c.args.self.now c.args.other.now)
