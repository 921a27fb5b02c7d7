-- Those of one subgoal behind those of the other.
use Rattle.std.proofs.Common.{ap, arith, length, subst, take, ◌++◌, ◌≤◌, ◌∙◌}
use Rattle.std.specs.List.{flat_map}
use Rattle.larch_prove_resuming.proofs.Plans.{constants_added, constants_all}
use Rattle.larch_prove_resuming.proofs.planning.constants_of_plan.Goals as goal

pub loop-subgoal-preserved : goal.loop-subgoal-preserved
loop-subgoal-preserved c =
    constants_added c.args.plan.now.constants c.loop-subgoal.constants c.add_operators.new.operators
    c.as_slice-subgoal-items.result.now c.loop-subgoal.subgoal-index c.subgoal-item.result c.loop-subgoal-test.true
    c.subgoal-item.is c.loop-subgoal.invariant
    (c.in_ok-add_operators.ensures ∙ ap (λ fs. c.loop-subgoal.constants ++ fs) c.as_slice-in-loop-subgoal.ensures)

pub returns : goal.returns
returns c =
    constants_all c.args.plan.now.constants c.loop-subgoal.constants c.args.plan.now.subgoals
    c.loop-subgoal.subgoal-index
    (subst (λ gs. length gs ≤ c.loop-subgoal.subgoal-index) c.as_slice-subgoal-items.ensures
    (omega (arith, c.loop-subgoal-test.false)))
    (c.loop-subgoal.invariant
    ∙ ap (λ gs. c.args.plan.now.constants ++ flat_map (λ g. g.constants) (take c.loop-subgoal.subgoal-index gs))
    c.as_slice-subgoal-items.ensures)
