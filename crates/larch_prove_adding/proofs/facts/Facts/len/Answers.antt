use Rattle.larch_prove_adding.proofs.Naming.{counted}
use Rattle.larch_prove_adding.proofs.facts.Facts.len.Goals as goal

pub returns : goal.returns
returns c =
    counted c.args.self.now c.self.inside.rules c.self.inside.absurd c.self.inside.count c.self.view_is c.self.invariant
