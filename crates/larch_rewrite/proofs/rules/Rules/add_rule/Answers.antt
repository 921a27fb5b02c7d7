use Rattle.std.specs.Prelude.{refl}
use Rattle.larch_store.proofs.Growth.{grows_trans}
use Rattle.larch_rewrite.proofs.RuleSets.{belongs_on, belongs_still, serves_still}
use Rattle.larch_rewrite.proofs.rules.Rules.add_rule.Goals as goal

pub returns-in_err-intern-clause-belongs : goal.returns-in_err-intern-clause-belongs
returns-in_err-intern-clause-belongs c h = belongs_on _ _ c.args.self.now c.in_err-intern.ensures.grows h

pub returns-in_err-intern-clause-serves : goal.returns-in_err-intern-clause-serves
returns-in_err-intern-clause-serves c b h k = serves_still _ _ _ _ _ refl c.in_err-intern.ensures.grows h

pub returns-in_err-intern-2-clause-belongs : goal.returns-in_err-intern-2-clause-belongs
returns-in_err-intern-2-clause-belongs c h =
    belongs_on _ _ c.args.self.now (grows_trans _ _ _ c.in_ok-intern.ensures.grows c.in_err-intern-2.ensures.grows) h

pub returns-in_err-intern-2-clause-serves : goal.returns-in_err-intern-2-clause-serves
returns-in_err-intern-2-clause-serves c b h k =
    serves_still _ _ _ _ _ refl (grows_trans _ _ _ c.in_ok-intern.ensures.grows c.in_err-intern-2.ensures.grows) h

pub returns-in_err-rule-clause-belongs : goal.returns-in_err-rule-clause-belongs
returns-in_err-rule-clause-belongs c h =
    belongs_on _ _ c.args.self.now (grows_trans _ _ _ c.in_ok-intern.ensures.grows c.in_ok-intern-2.ensures.grows) h

pub returns-in_err-rule-clause-serves : goal.returns-in_err-rule-clause-serves
returns-in_err-rule-clause-serves c b h k =
    serves_still _ _ _ _ _ refl (grows_trans _ _ _ c.in_ok-intern.ensures.grows c.in_ok-intern-2.ensures.grows) h

pub returns-in_err-put-clause-belongs : goal.returns-in_err-put-clause-belongs
returns-in_err-put-clause-belongs c h =
    belongs_still _ _ c.args.self.now _ c.in_err-put.ensures.err
    (grows_trans _ _ _ c.in_ok-intern.ensures.grows c.in_ok-intern-2.ensures.grows) h

pub returns-in_err-put-clause-serves : goal.returns-in_err-put-clause-serves
returns-in_err-put-clause-serves c b h k =
    serves_still _ _ _ _ _ c.in_err-put.ensures.err
    (grows_trans _ _ _ c.in_ok-intern.ensures.grows c.in_ok-intern-2.ensures.grows) h
