use Rattle.larch_rewrite.proofs.RuleSets.{serves_on}
use Rattle.larch_rewrite.proofs.laws.rules_serve_on.Goals as goal

pub returns : goal.returns
returns c s u a b set g x h = serves_on s u a b set g x h
