use Rattle.std.proofs.Common.{◌∙◌}
use Rattle.larch_import_meaning.specs.Lengths.{with_statement}
use Rattle.larch_import.proofs.Longest.{one_more}
use Rattle.larch_import.proofs.lengths.with_statements.Goals as goal

pub loop-statement-preserved : goal.loop-statement-preserved
loop-statement-preserved c =
    c.with_statement-most.ensures
    ∙ one_more with_statement c.args.most c.args.statements.now c.loop-statement.statement-index
    c.statement-item.result c.loop-statement.most
    c.loop-statement-test.true c.statement-item.is c.loop-statement.invariant
