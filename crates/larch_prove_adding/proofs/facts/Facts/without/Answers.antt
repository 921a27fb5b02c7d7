use Rattle.std.specs.Prelude.{[]}
use Rattle.std.proofs.Common.{ap, subst, sym, ◌∙◌}
use Rattle.larch_prove_adding.specs.KeptFacts.{AreSaid}
use Rattle.larch_prove_adding.proofs.Naming.{others_now}
use Rattle.larch_prove_adding.proofs.Views.{said_now}
use Rattle.larch_prove_adding.proofs.facts.Facts.without.Goals as goal
use Rattle.larch_rewrite.specs.RuleSet.{without}

pub returns-clause-facts : goal.returns-clause-facts
returns-clause-facts c =
    others_now c.args.self.now c.self.inside.rules c.remove.new.self c.self.inside.absurd c.args.name.now
    c.self.view_is (c.in_ok-remove.ensures.rules ∙ ap (without c.args.name.now) c.in_ok-rules.ensures.rules)

pub returns-clause-said : goal.returns-clause-said
returns-clause-said c b h =
    let w = said_now b c.args.self.now c.self.inside.rules c.self.inside.absurd c.self.view_is h in
    let g = c.in_ok-remove.ensures.serves [] b (c.in_ok-rules.ensures.serves [] b w.0.0) in
    ((g.said, g.led), w.1)
