-- The open subgoal is the one at its place.
use Rattle.std.specs.Prelude.{◌≡◌, Some, option_map}
use Rattle.std.specs.List.{slice_get}
use Rattle.std.proofs.Common.{ap, sym, ◌∙◌}
use Rattle.larch_base.proofs.Options.{some_inj}
use Rattle.larch_prove_settling.proofs.Leaving.{got, if_answered}
use Rattle.larch_prove_settling.proofs.methods.leave.Goals as goal

pub returns : goal.returns
returns c =
    let here : Some c.in-Some.subgoal.now ≡ slice_get c.args.planned.now.plan.subgoals c.args.place =
    sym (ap (option_map (λ x. x.now)) c.in-Some.is)
    ∙ got c.get.result c.as_slice.result.now c.args.place c.get.ensures.lookup.3
    ∙ ap (λ xs. slice_get xs c.args.place) c.as_slice.ensures in
    if_answered _ _ c.leave_subgoal.result (λ left h t s a cs levels k j ks r w m g e.
    h t s a cs levels k j ks r w m (some_inj (here ∙ g)) e) c.leave_subgoal.ensures
