use Rattle.std.specs.Prelude.{[]}
use Rattle.larch_prove_adding.proofs.facts.Facts.new.Goals as goal

pub returns-clause-said : goal.returns-clause-said
returns-clause-said c b = let g = c.in_ok-rules.ensures.serves [] b in ((g.said, g.led), tt)
