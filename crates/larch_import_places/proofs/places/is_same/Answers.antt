use Rattle.larch_term.proofs.Decided.{statements_told}
use Rattle.larch_import_places.proofs.places.is_same.Goals as goal

pub returns : goal.returns
returns c =
    statements_told c.args.left.now c.args.right.now c.same_statement.result c.same_statement.ensures
