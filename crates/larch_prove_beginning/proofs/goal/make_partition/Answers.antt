-- The names of both constants are new.
use Rattle.std.specs.Prelude.{codes}
use Rattle.std.proofs.Common.{ap, ap₂, ◌∙◌, ◌∷◌}
use Rattle.larch_prove_beginning.proofs.goal.make_partition.Goals as goal
use Rattle.larch_prove_meaning.specs.NewNames.{free_name}
use Rattle.larch_prove_opening.specs.ProvePlansClauseGoals.{partition_goal}
use Rattle.larch_prove_settling.proofs.Leaving.{if_answered}

pub returns : goal.returns
returns c =
    let s = c.args.clause.now.sort.now in let os = c.args.clause.now.operators.now in
    if_answered _ _ c.make_clause.result (λ f h t may.
    h t c.args.taken.now s os
    (c.in_ok-subgoal.ensures
    ∙ ap₂ (λ n m. partition_goal n m s os) c.in_ok-first.ensures
    (c.in_ok-second.ensures ∙ ap (λ n. free_name (n ∷ c.args.taken.now) (codes "rc")) c.in_ok-first.ensures)) may)
    c.make_clause.ensures.partition
