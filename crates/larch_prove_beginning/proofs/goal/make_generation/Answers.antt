-- The predicate's name is new.
use Rattle.std.proofs.Common.{ap, ◌∙◌}
use Rattle.larch_prove_beginning.proofs.goal.make_generation.Goals as goal
use Rattle.larch_prove_opening.specs.ProvePlansClauseGoals.{generation_goal}
use Rattle.larch_prove_settling.proofs.Leaving.{if_answered}

pub returns : goal.returns
returns c =
    let s = c.args.clause.now.sort.now in let fs = c.args.clause.now.operators.now in
    if_answered _ _ c.make_clause.result (λ f h t may.
    h t c.args.taken.now s fs
    (c.in_ok-subgoal.ensures ∙ ap (λ n. generation_goal n s fs) c.in_ok-name.ensures) may)
    c.make_clause.ensures.generation
