use Rattle.larch_rewrite.proofs.RuleSets.{belongs_still, may_begin, same_set, serves_later, went_on}
use Rattle.larch_rewrite.proofs.rules.Rules.normalise.Goals as goal

pub returns-in-Ok-clause-says : goal.returns-in-Ok-clause-says
returns-in-Ok-clause-says c k h = c.in-Ok.ensures.says (may_begin _ _ _ _ _ _ c.self.view_is k h)

pub returns-in-Ok-clause-extends : goal.returns-in-Ok-clause-extends
returns-in-Ok-clause-extends c k h = c.in-Ok.ensures.extends (may_begin _ _ _ _ _ _ c.self.view_is k h)

pub returns-in-Ok-clause-serves : goal.returns-in-Ok-clause-serves
returns-in-Ok-clause-serves c k h =
    let m = may_begin _ _ _ _ _ _ c.self.view_is k h in
    went_on _ _ _ _ _ _ _ _ c.self.view_is (c.in-Ok.ensures.extends m) h c.in-Ok.ensures.kept (c.in-Ok.ensures.led m)

pub returns-in-Err-clause-extends : goal.returns-in-Err-clause-extends
returns-in-Err-clause-extends c k h = c.in-Err.ensures.extends (may_begin _ _ _ _ _ _ c.self.view_is k h)

pub returns-in-Err-clause-kept : goal.returns-in-Err-clause-kept
returns-in-Err-clause-kept c =
    belongs_still _ _ _ _
    (same_set _ _ _ _ _ _ c.self.view_is c.cut.ensures c.len-count.ensures c.in-Err.ensures.front)
    c.in-Err.ensures.grows c.requires.kept

pub returns-in-Err-clause-serves : goal.returns-in-Err-clause-serves
returns-in-Err-clause-serves c k h =
    serves_later _ _ _ _ _ _
    (same_set _ _ _ _ _ _ c.self.view_is c.cut.ensures c.len-count.ensures c.in-Err.ensures.front)
    c.in-Err.ensures.grows (c.in-Err.ensures.extends (may_begin _ _ _ _ _ _ c.self.view_is k h)) h
