use Rattle.std.proofs.Common.{rules, ◌≡◌, ap, map, ◌∙◌}
use Rattle.larch_calculus.specs.Formula.{constant}
use Rattle.larch_prove_plans.specs.ClauseGoals.{same_shown}
use Rattle.larch_prove_plans.specs.Observations.{observation_of}
use Rattle.larch_prove_plans.proofs.same_shown.same_of_constants.Goals as goal

pub returns : goal.returns
returns c =
    let e : c.in_ok-equations.equations
    ≡ map (same_shown (constant c.args.first.now) (constant c.args.second.now))
    (map observation_of c.in_ok-observations.observations.items) = search rules in
    e ∙ ap (map (same_shown (constant c.args.first.now) (constant c.args.second.now))) c.in_ok-observations.ensures
