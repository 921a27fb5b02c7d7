use Rattle.larch_prove_adding.proofs.Views.{facts_said}
use Rattle.larch_prove_adding.proofs.facts.Facts.are_said.Goals as goal

pub returns-clause-facts : goal.returns-clause-facts
returns-clause-facts c b h =
    facts_said b c.args.self.now c.self.inside.rules c.self.inside.absurd c.self.inside.count c.self.view_is
    c.self.invariant h
