use Rattle.larch_rewrite.proofs.RuleSets.{serves_copied}
use Rattle.larch_rewrite.proofs.rules.Rules.copy.Goals as goal

pub returns-clause-serves : goal.returns-clause-serves
returns-clause-serves c s b h =
    serves_copied s b _ _ _ c.self.inside.kept _ c.self.view_is c.in_ok-rules.ensures c.in_ok-kept.ensures h
