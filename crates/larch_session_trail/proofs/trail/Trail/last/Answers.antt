-- The last of the later states, or the first one.
use Rattle.std.proofs.Common.{ap, length, subst, sym, ◌-◌, ◌∙◌}
use Rattle.std.specs.List.{slice_get}
use Rattle.std.specs.Option.{option_copied}
use Rattle.larch_prove.specs.State.{IsStateOf}
use Rattle.larch_session_trail.proofs.States.{last_got, last_is, last_missed}
use Rattle.larch_session_trail.proofs.trail.Trail.last.Goals as goal
use Rattle.larch_session_trail.specs.Trail.{behind, later_in}

pub returns-in-Some : goal.returns-in-Some
returns-in-Some c = λ s answer commands h.
    subst (λ x. IsStateOf s x (behind answer commands))
    (sym (c.as_ref.ensures ∙ last_got (λ x. x.value) c.args.self.now.first.value c.args.self.now.later.items
    c.in-Some.state.now (sym (ap option_copied c.in-Some.is) ∙ c.last.ensures.value
    ∙ ap (λ xs. slice_get xs (length xs - 1)) c.deref.ensures.value)))
    (last_is s answer commands c.args.self.now.first.value (later_in c.args.self.now) h)

pub returns-in-None : goal.returns-in-None
returns-in-None c = λ s answer commands h.
    subst (λ x. IsStateOf s x (behind answer commands))
    (sym (c.as_ref-in-None.ensures ∙ last_missed (λ x. x.value) c.args.self.now.first.value
    c.args.self.now.later.items (sym (ap option_copied c.in-None.is) ∙ c.last.ensures.value
    ∙ ap (λ xs. slice_get xs (length xs - 1)) c.deref.ensures.value)))
    (last_is s answer commands c.args.self.now.first.value (later_in c.args.self.now) h)
