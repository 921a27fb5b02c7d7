use Rattle.std.proofs.lemmas.Result.{err_from_is_err_and}
use Rattle.larch_complete.proofs.Found.{joins_halts, joins_told}
use Rattle.larch_complete.proofs.testing.joins.Goals as goal
use Rattle.larch_complete_pairs.specs.Said.{sides_in}
use Rattle.larch_complete_rounds.specs.Ready.{rules_in}
use Rattle.larch_complete_rounds.specs.Task.{task_in}

pub returns-in_err-found-clause-halts : goal.returns-in_err-found-clause-halts
returns-in_err-found-clause-halts c =
    let p = err_from_is_err_and c.from_residual.result c.from_residual.ensures.1 in
    rw (p.1, p.2)
    (joins_halts (task_in c.args.task.now) (rules_in c.args.rewriter.now) (sides_in c.args.equation.now) _
    c.in_err-found.ensures.refused)

pub returns-clause-told : goal.returns-clause-told
returns-clause-told c =
    joins_told (task_in c.args.task.now) (rules_in c.args.rewriter.now) (sides_in c.args.equation.now)
    (sides_in c.in_ok-found.found) _ c.in_ok-found.ensures.reduced c.same_term.ensures
