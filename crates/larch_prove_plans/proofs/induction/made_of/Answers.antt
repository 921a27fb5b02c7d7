use Rattle.std.proofs.Common.{ap, ap₂, ◌∙◌, map}
use Rattle.std.proofs.lemmas.List.{take_all}
use Rattle.larch_term.specs.Tree.{forest_of}
use Rattle.larch_prove_plans.proofs.Constants.{constants_as_terms}
use Rattle.std.proofs.Common.{map}
use Rattle.larch_calculus.specs.Formula.{constant}
use Rattle.larch_term.specs.Tree.{app}
use Rattle.larch_prove_plans.proofs.induction.made_of.Goals as goal

-- src/induction.rt:180:1
pub returns : goal.returns
returns c =
    c.app.ensures
    ∙ ap₂ (λ f ts. app f ts) c.in_ok-generator.ensures
    (ap forest_of (c.from_vec.ensures ∙ c.loop-operator.invariant
    ∙ ap (λ cs. map constant cs)
    (take_all c.loop-operator.operator-index c.args.constants.now c.loop-operator-test.false))
    ∙ constants_as_terms c.args.constants.now)
