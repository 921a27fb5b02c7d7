use Rattle.larch_sorts_signature.proofs.SortsMeaningReadAnswers.{result_known, result_only, result_stands, result_over}
use Rattle.larch_sorts_signature.proofs.SortsMeaningReadAnswers.{result_in_scope}
use Rattle.larch_sorts.proofs.read.read_in.Goals as goal

pub returns-clause-known : goal.returns-clause-known
returns-clause-known c =
    result_known c.args.signature.now c.args.scope.now c.args.raw.now c.statement.result c.statement.ensures

pub returns-clause-only : goal.returns-clause-only
returns-clause-only c =
    result_only c.args.signature.now c.args.scope.now c.args.raw.now c.statement.result c.statement.ensures

pub returns-clause-stands : goal.returns-clause-stands
returns-clause-stands c =
    result_stands c.args.signature.now c.args.scope.now c.args.raw.now c.statement.result c.statement.ensures

pub returns-clause-well_sorted : goal.returns-clause-well_sorted
returns-clause-well_sorted c =
    result_over c.args.signature.now c.args.scope.now c.args.raw.now c.statement.result c.statement.ensures

pub returns-clause-in_scope : goal.returns-clause-in_scope
returns-clause-in_scope c =
    result_in_scope c.args.signature.now c.args.scope.now c.args.raw.now c.statement.result c.statement.ensures
