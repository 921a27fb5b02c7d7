-- A state that is refused, and one behind which the command is carried out.
use Rattle.std.proofs.Common.{ap, map, sym, subst, ◌∙◌, ◌++◌, ◌∷◌, []}
use Rattle.std.proofs.lemmas.List.{map-append}
use Rattle.larch_session_trail.proofs.States.{pushed, stays, stepped}
use Rattle.larch_session_trail.proofs.carrying.push_state.Goals as goal
use Rattle.larch_session_trail.specs.Trail.{AreStates, behind, later_in}

pub returns-then-refused-clause-states : goal.returns-then-refused-clause-states
returns-then-refused-clause-states g c = λ s answer block h.
    stays s answer block c.args.trail.now.first.value (later_in c.args.trail.now) c.args.command.now.kind
    (sym (c.in_ok-refused.ensures s (behind answer block) (c.last.ensures s answer block h)) ∙ c.if-refused.true) h

pub returns-clause-states : goal.returns-clause-states
returns-clause-states g c = λ s answer block h.
    let going = sym (c.in_ok-refused.ensures s (behind answer block) (c.last.ensures s answer block h))
    ∙ c.if-refused.false in
    subst (AreStates s answer (block ++ c.args.command.now.kind ∷ []) c.args.trail.now.first.value)
    (sym (ap (map (λ state. state.value)) c.in_ok-push.ensures.items
    ∙ map-append (λ state. state.value) c.args.trail.now.later.items (c.in_ok-state.state ∷ [])))
    (pushed s answer block c.args.trail.now.first.value (later_in c.args.trail.now) c.args.command.now.kind
    c.in_ok-state.state.value going
    (stepped s c.last-2.result.now c.in_ok-state.state.value c.args.command.now.kind (behind answer block) going
    (c.in_ok-state.ensures.stepped s) (c.last-2.ensures s answer block h)) h)
