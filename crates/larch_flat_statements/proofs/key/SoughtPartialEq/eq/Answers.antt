-- The test tells exactly what is equal.
use Rattle.larch_term.proofs.Decided.{statements_told}
use Rattle.larch_flat_statements.proofs.key.SoughtPartialEq.eq.Goals as goal

pub returns : goal.returns
returns c =
    statements_told (c.args.self.now.statement.now)
    (c.args.other.now.statement.now) c.same_statement.result c.same_statement.ensures
