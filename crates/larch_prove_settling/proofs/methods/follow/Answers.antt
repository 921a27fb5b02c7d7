-- What runs on the level is planned so.
use Rattle.std.proofs.Common.{subst, sym, ◌∙◌}
use Rattle.larch_prove_settling.proofs.Following.{runs_below, runs_some}
use Rattle.larch_prove_settling.proofs.methods.follow.Goals as goal
use Rattle.larch_prove_settling.specs.Rising.{IsRunning}

pub open_place-requires : goal.open_place-requires
open_place-requires c =
    let w = c.requires.rises.1.1.1.1.1 in
    runs_some _ _ (c.as_ref.ensures.value ∙ (runs_below _ _ _ _ _ _ _ _ _ w.rises w.purpose).is_here)

pub go_on-requires-clause-rises : goal.go_on-requires-clause-rises
go_on-requires-clause-rises c = c.requires.rises

pub go_on-requires-clause-runs : goal.go_on-requires-clause-runs
go_on-requires-clause-runs c =
    subst (λ p. IsRunning p c.in_ok-planned.place c.args.draft.now.current.running) (sym c.deref.ensures)
    (subst (IsRunning c.in_ok-planned.planned.value c.in_ok-planned.place) c.as_ref.ensures.value
    c.in_ok-planned.ensures)

pub returns-clause-leads : goal.returns-clause-leads
returns-clause-leads c = c.go_on.ensures.leads

pub returns-clause-refused : goal.returns-clause-refused
returns-clause-refused c = c.go_on.ensures.refused

pub returns-clause-falls : goal.returns-clause-falls
returns-clause-falls c = c.go_on.ensures.falls
