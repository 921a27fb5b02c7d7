use Rattle.std.proofs.Common.{sym, ◌∙◌, ap}
use Rattle.larch_verify_meaning.specs.BoxRules.{induct_says}
use Rattle.larch_verify_meaning.specs.ClauseRules.{observe_says}
use Rattle.larch_verify_meaning.specs.Context.{find_symbol}
use Rattle.larch_verify_meaning.specs.Run.{judge}
use Rattle.larch_verify_history.specs.Past.{history_of}
use Rattle.larch_verify.proofs.judging.judge_by_boxes.Goals as goal

pub returns-in_ok-sides-in-Induct-clause-says : goal.returns-in_ok-sides-in-Induct-clause-says
returns-in_ok-sides-in-Induct-clause-says c =
    c.in_ok-sides-in-Induct.ensures.says
    ∙ ap
    (λ bs. induct_says (find_symbol c.args.context.now.theory.now
    (history_of c.args.pool.now c.args.context.now.past.now))
    (history_of c.args.pool.now c.args.context.now.past.now) c.in-Induct.clause c.in-Induct.variable
    c.in-Induct.equation bs)
    c.as_slice-boxes.ensures
    ∙ ap (judge c.args.context.now.theory.now (history_of c.args.pool.now c.args.context.now.past.now))
    (sym c.in-Induct.is)

pub returns-in_ok-sides-in-Observe-clause-says : goal.returns-in_ok-sides-in-Observe-clause-says
returns-in_ok-sides-in-Observe-clause-says c =
    c.in_ok-sides-in-Observe.ensures.says
    ∙ ap
    (λ ns. observe_says (find_symbol c.args.context.now.theory.now
    (history_of c.args.pool.now c.args.context.now.past.now))
    (history_of c.args.pool.now c.args.context.now.past.now) c.in-Observe.clause c.in-Observe.equation ns)
    c.as_slice-in-Observe.ensures
    ∙ ap (judge c.args.context.now.theory.now (history_of c.args.pool.now c.args.context.now.past.now))
    (sym c.in-Observe.is)
