-- The test tells exactly what is equal.
use Rattle.larch_term.proofs.Decided.{statements_told}
use Rattle.larch_flat_statements.proofs.key.SoughtEquivalentStatementKey.equivalent.Goals as goal

pub returns : goal.returns
returns c =
    statements_told (c.args.self.now.statement.now)
    (c.args.key.now.statement) c.same_statement.result c.same_statement.ensures
