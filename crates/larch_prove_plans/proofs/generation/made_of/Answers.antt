use Rattle.std.proofs.Common.{ap, ap₂, ◌∙◌, map}
use Rattle.std.proofs.lemmas.List.{take_all}
use Rattle.larch_term.specs.Tree.{app, forest_of}
use Rattle.larch_prove_plans.specs.ClauseGoals.{as_term}
use Rattle.larch_prove_plans.proofs.Generating.{variables_as_terms}
use Rattle.larch_prove_plans.proofs.generation.made_of.Goals as goal

pub returns : goal.returns
returns c =
    c.app.ensures
    ∙ ap₂ (λ f ts. app f ts) c.in_ok-operator.ensures
    (ap forest_of (c.from_vec.ensures ∙ c.loop-variable.invariant
    ∙ ap (λ vs. map as_term vs)
    (take_all c.loop-variable.variable-index c.args.variables.now c.loop-variable-test.false))
    ∙ variables_as_terms c.args.variables.now)
