use Rattle.larch_models.proofs.Answers.{holds_where_none_fails}
use Rattle.larch_models.proofs.truth.check_model.Goals as goal

pub returns-clause-derivable : goal.returns-clause-derivable
returns-clause-derivable c e =
    holds_where_none_fails c.args.theory.now c.args.model.now c.as_slice-statement-items.result.now
    c.loop-statement.number c.loop-statement.statement-index c.as_slice-statement-items.ensures
    c.loop-statement-test.false c.loop-statement.invariant.same
