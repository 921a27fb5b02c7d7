use Rattle.std.specs.Prelude.{refl}
use Rattle.std.proofs.lemmas.Result.{err_from_is_err_and}
use Rattle.larch_complete_pairs.specs.Said.{sides_in}
use Rattle.larch_complete_rounds.specs.Ready.{rules_in}
use Rattle.larch_complete_rounds.specs.Task.{task_in}
use Rattle.larch_complete_rounds.proofs.Reducing.{ready_still}
use Rattle.larch_complete_rounds.proofs.Settled.{first_halts, rule_settled, same_settled, second_halts, told_not}
use Rattle.larch_complete_rounds.proofs.settling.settle.Goals as goal
use Rattle.larch_derive.proofs.Growth.{extends_trans}

pub returns-in_err-found-clause-halts : goal.returns-in_err-found-clause-halts
returns-in_err-found-clause-halts c =
    let p = err_from_is_err_and c.from_residual.result c.from_residual.ensures.1 in
    rw (p.1, p.2)
    (first_halts (task_in c.args.task.now) (rules_in c.args.rewriter.now) (sides_in c.args.equation.now) _
    c.in_err-found.ensures.refused)

pub returns-then-same_term-clause-settled : goal.returns-then-same_term-clause-settled
returns-then-same_term-clause-settled c =
    same_settled (task_in c.args.task.now) (rules_in c.args.rewriter.now) (sides_in c.args.equation.now)
    (sides_in c.in_ok-found.found) c.in_ok-found.ensures.reduced (c.same_term.ensures.0 c.if-same_term.true)

pub returns-in_err-rule-clause-halts : goal.returns-in_err-rule-clause-halts
returns-in_err-rule-clause-halts c =
    let p = err_from_is_err_and c.from_residual-in_err-rule.result c.from_residual-in_err-rule.ensures.1 in
    rw (p.1, p.2)
    (second_halts (task_in c.args.task.now) (rules_in c.args.rewriter.now) (sides_in c.args.equation.now)
    (sides_in c.in_ok-found.found) _ c.in_ok-found.ensures.reduced
    (told_not _ _ c.if-same_term.false c.same_term.ensures) c.in_err-rule.ensures.halts)

pub returns-in_err-rule-clause-extends : goal.returns-in_err-rule-clause-extends
returns-in_err-rule-clause-extends c =
    extends_trans _ _ _ c.in_ok-found.ensures.extends c.in_err-rule.ensures.extends

pub returns-clause-settled : goal.returns-clause-settled
returns-clause-settled c =
    rule_settled (task_in c.args.task.now) (rules_in c.args.rewriter.now) (sides_in c.args.equation.now)
    (sides_in c.in_ok-found.found) (sides_in c.in_ok-rule.rule) c.in_ok-found.ensures.reduced
    (told_not _ _ c.if-same_term.false c.same_term.ensures) c.in_ok-rule.ensures.oriented

pub returns-clause-extends : goal.returns-clause-extends
returns-clause-extends c = extends_trans _ _ _ c.in_ok-found.ensures.extends c.in_ok-rule.ensures.extends

pub returns-clause-ready : goal.returns-clause-ready
returns-clause-ready c =
    ready_still c.reduce.new.self (record c.reduce.new.self { builder = c.orient_equation.new.builder })
    c.in_ok-rule.ensures.extends refl refl c.in_ok-found.ensures.ready
