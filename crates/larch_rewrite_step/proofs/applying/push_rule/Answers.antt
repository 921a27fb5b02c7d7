use Rattle.std.proofs.Common.{ap, ◌∙◌}
use Rattle.larch_derive.proofs.Growth.{extends_trans}
use Rattle.larch_rewrite_match.specs.Exchanged.{exchange_equality}
use Rattle.larch_rewrite_match.specs.Rule.{left_of, right_of}
use Rattle.larch_rewrite_step.proofs.Applications.{tried_plain, tried_turned, says_by, worded_by, left_same}
use Rattle.larch_rewrite_step.proofs.applying.push_rule.Goals as goal

pub returns-in_err-said-clause-extends : goal.returns-in_err-said-clause-extends
returns-in_err-said-clause-extends c x st h i p =
    c.in_err-said.ensures.extends (left_of c.args.rule.now) (right_of c.args.rule.now) st
    (says_by _ c.args.rule.now _ c.reason.ensures h) (worded_by c.args.rule.now _ c.reason.ensures i)

pub returns-then-not-exchanged-clause-says : goal.returns-then-not-exchanged-clause-says
returns-then-not-exchanged-clause-says c x st h i p =
    tried_plain _ c.args.rule.now c.args.exchanged x _ c.if-not-exchanged.true p
    (c.in_ok-said.ensures.says (left_of c.args.rule.now) (right_of c.args.rule.now) st
    (says_by _ c.args.rule.now _ c.reason.ensures h) (worded_by c.args.rule.now _ c.reason.ensures i))

pub returns-then-not-exchanged-clause-extends : goal.returns-then-not-exchanged-clause-extends
returns-then-not-exchanged-clause-extends c x st h i p =
    c.in_ok-said.ensures.extends (left_of c.args.rule.now) (right_of c.args.rule.now) st
    (says_by _ c.args.rule.now _ c.reason.ensures h) (worded_by c.args.rule.now _ c.reason.ensures i)

pub returns-in_err-line-clause-extends : goal.returns-in_err-line-clause-extends
returns-in_err-line-clause-extends c x st h i p =
    extends_trans _ _ _ (c.in_ok-said.ensures.extends (left_of c.args.rule.now) (right_of c.args.rule.now) st
    (says_by _ c.args.rule.now _ c.reason.ensures h) (worded_by c.args.rule.now _ c.reason.ensures i))
    (c.in_err-line.ensures.extends x (right_of c.args.rule.now)
    (ap exchange_equality c.left.ensures ∙ tried_turned c.args.rule.now c.args.exchanged x c.if-not-exchanged.false p)
    (left_same _ _ _ _ _ c.left.ensures
    (c.in_ok-said.ensures.says (left_of c.args.rule.now) (right_of c.args.rule.now) st
    (says_by _ c.args.rule.now _ c.reason.ensures h) (worded_by c.args.rule.now _ c.reason.ensures i))))

pub returns-clause-says : goal.returns-clause-says
returns-clause-says c x st h i p =
    c.in_ok-line.ensures.says x (right_of c.args.rule.now)
    (ap exchange_equality c.left.ensures ∙ tried_turned c.args.rule.now c.args.exchanged x c.if-not-exchanged.false p)
    (left_same _ _ _ _ _ c.left.ensures
    (c.in_ok-said.ensures.says (left_of c.args.rule.now) (right_of c.args.rule.now) st
    (says_by _ c.args.rule.now _ c.reason.ensures h) (worded_by c.args.rule.now _ c.reason.ensures i)))

pub returns-clause-extends : goal.returns-clause-extends
returns-clause-extends c x st h i p =
    extends_trans _ _ _ (c.in_ok-said.ensures.extends (left_of c.args.rule.now) (right_of c.args.rule.now) st
    (says_by _ c.args.rule.now _ c.reason.ensures h) (worded_by c.args.rule.now _ c.reason.ensures i))
    (c.in_ok-line.ensures.extends x (right_of c.args.rule.now)
    (ap exchange_equality c.left.ensures ∙ tried_turned c.args.rule.now c.args.exchanged x c.if-not-exchanged.false p)
    (left_same _ _ _ _ _ c.left.ensures
    (c.in_ok-said.ensures.says (left_of c.args.rule.now) (right_of c.args.rule.now) st
    (says_by _ c.args.rule.now _ c.reason.ensures h) (worded_by c.args.rule.now _ c.reason.ensures i))))
