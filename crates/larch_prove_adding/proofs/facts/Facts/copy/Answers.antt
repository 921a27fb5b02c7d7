use Rattle.std.specs.Prelude.{[]}
use Rattle.larch_prove_adding.proofs.Views.{copy_said}
use Rattle.larch_prove_adding.proofs.facts.Facts.copy.Goals as goal

pub returns-clause-said : goal.returns-clause-said
returns-clause-said c b g s =
    copy_said b c.args.self.now c.self.inside.rules c.in_ok-rules.rules c.self.inside.absurd c.self.view_is
    (λ d h. c.in_ok-rules.ensures.serves [] d h) g s
