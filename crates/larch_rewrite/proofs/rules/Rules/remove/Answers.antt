use Rattle.larch_rewrite.proofs.RuleSets.{serves_removed}
use Rattle.larch_rewrite.proofs.rules.Rules.remove.Goals as goal

pub returns-clause-serves : goal.returns-clause-serves
returns-clause-serves c s b h =
    serves_removed s b _ _ _ _ _ _ c.self.view_is c.in_ok-self-inside.ensures c.cut.ensures h
