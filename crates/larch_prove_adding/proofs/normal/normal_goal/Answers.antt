use Rattle.larch_derive.proofs.Growth.{extends_trans, stays_said}
use Rattle.larch_prove_adding.proofs.Staying.{said_stays}
use Rattle.larch_prove_adding.proofs.normal.normal_goal.Goals as goal

pub returns-clause-says : goal.returns-clause-says
returns-clause-says c first h =
    c.in_ok-way.ensures.says first _ _ (stays_said _ _ _ _ c.in_ok-normal.ensures.extends h)
    c.in_ok-normal.ensures.says

pub returns-clause-extends : goal.returns-clause-extends
returns-clause-extends c first h =
    extends_trans _ _ _ c.in_ok-normal.ensures.extends
    (c.in_ok-way.ensures.extends first _ _ (stays_said _ _ _ _ c.in_ok-normal.ensures.extends h)
    c.in_ok-normal.ensures.says)

pub returns-clause-said : goal.returns-clause-said
returns-clause-said c first h =
    said_stays _ _ c.normalise.new.self
    (c.in_ok-way.ensures.extends first _ _ (stays_said _ _ _ _ c.in_ok-normal.ensures.extends h)
    c.in_ok-normal.ensures.says)
    c.in_ok-normal.ensures.said
