use Rattle.std.specs.Option.{option_copied}
use Rattle.std.proofs.Common.{ap, sym, ◌∙◌}
use Rattle.larch_prove_adding.specs.Equation.{sides_in}
use Rattle.larch_prove_adding.proofs.Naming.{found_said, none_found, one_found}
use Rattle.larch_prove_adding.proofs.facts.Facts.find.Goals as goal

pub returns-in_default-clause-found : goal.returns-in_default-clause-found
returns-in_default-clause-found c =
    none_found c.args.self.now c.self.inside.rules c.self.inside.absurd c.args.name.now c.self.view_is
    (ap option_copied (sym c.in_default.is) ∙ c.rule_named.ensures)

pub returns-clause-found : goal.returns-clause-found
returns-clause-found c =
    one_found c.args.self.now c.self.inside.rules c.self.inside.absurd c.args.name.now c.in-Some.rule.now
    (sides_in c.in_ok-equation.equation) c.self.view_is
    (ap option_copied (sym c.in-Some.is) ∙ c.rule_named.ensures) c.in_ok-equation.ensures.sides

pub returns-clause-said : goal.returns-clause-said
returns-clause-said c b h =
    found_said b c.args.self.now c.self.inside.rules c.self.inside.absurd c.args.name.now c.in-Some.rule.now
    c.in_ok-equation.equation c.self.view_is (ap option_copied (sym c.in-Some.is) ∙ c.rule_named.ensures)
    c.in_ok-equation.ensures.sides c.in_ok-equation.ensures.line h
