-- The open subgoal is left; the next one follows, if there is one, or the method ends.
use Rattle.std.specs.Prelude.{◌≡◌, ◌+◌, None, Some, option_map}
use Rattle.std.specs.List.{slice_get}
use Rattle.std.proofs.Common.{ap, arith, length, subst, sym, ◌∙◌}
use Rattle.larch_prove_draft.specs.Draft.{Leads}
use Rattle.larch_prove_draft.specs.ProveLevelsSupposing.{TellsCode}
use Rattle.larch_prove_draft.specs.ProveMeaningLevels.{opened_from, rise}
use Rattle.larch_prove_settling.proofs.Following.{ends_with, follows_with, method_there, now_there, place_within}
use Rattle.larch_prove_settling.proofs.Following.{room_there, runs_below, shows}
use Rattle.larch_prove_settling.proofs.Leaving.{got, if_answered, if_any, if_each, if_refused}
use Rattle.larch_prove_settling.proofs.Measures.{falls_still}
use Rattle.larch_prove_settling.proofs.methods.go_on.Goals as goal

pub leave-requires : goal.leave-requires
leave-requires c =
    let w = c.requires.rises.1.1.1.1.1 in
    place_within _ _ _ _ _ _ _ _ _ w.rises (runs_below _ _ _ _ _ _ _ _ _ w.rises w.purpose) _ _ c.requires.runs

pub open_next-requires-clause-follows : goal.open_next-requires-clause-follows
open_next-requires-clause-follows c =
    let q = c.requires.rises in let w = q.1.1.1.1.1 in
    let z = runs_below _ _ _ _ _ _ _ _ _ w.rises w.purpose in
    let h = c.in_ok-left.ensures _ _ _ _ _ _ _ _ _ (shows _ _ _ _ _ _ _ _ _ w.rises z)
    (method_there _ _ _ _ _ _ _ _ _ w.rises z _ _ c.requires.runs)
    (now_there _ _ _ _ _ _ _ _ _ w.rises z _ _ c.requires.runs) w.entrance_is in
    let within = place_within _ _ _ _ _ _ _ _ _ w.rises z _ _ c.requires.runs in
    let least = c.saturating_add.ensures in let end = c.min-next.ensures in let fits = c.min-next.type_inv in
    let slice = ap length c.as_slice-subgoals.ensures in let room = c.as_slice-subgoals.type_inv in
    let next : c.min-next.result ≡ c.args.upper.place + 1 = omega (arith, within, least, end, fits, slice, room) in
    let e : slice_get c.args.planned.now.plan.subgoals (c.args.upper.place + 1) ≡ Some c.in-Some.subgoal.now =
    ap (slice_get c.args.planned.now.plan.subgoals) (sym next)
    ∙ ap (λ xs. slice_get xs c.min-next.result) (sym c.as_slice-subgoals.ensures)
    ∙ sym (got c.get.result c.as_slice-subgoals.result.now c.min-next.result c.get.ensures.lookup.3)
    ∙ ap (option_map (λ x. x.now)) c.in-Some.is in (
      q.0,
      (
        q.1.0,
        (q.1.1.0, (q.1.1.1.1.0, follows_with _ _ _ _ _ _ _ _ _ w.rises z _ _ c.requires.runs _ _ h _ e)),
      ),
    )

pub open_next-requires-clause-room : goal.open_next-requires-clause-room
open_next-requires-clause-room c =
    let w = c.requires.rises.1.1.1.1.1 in
    room_there _ _ _ _ _ _ _ _ _ w.rises (runs_below _ _ _ _ _ _ _ _ _ w.rises w.purpose) _ _ c.requires.runs

pub end-requires-clause-follows : goal.end-requires-clause-follows
end-requires-clause-follows c =
    let q = c.requires.rises in let w = q.1.1.1.1.1 in
    let z = runs_below _ _ _ _ _ _ _ _ _ w.rises w.purpose in
    let h = c.in_ok-left.ensures _ _ _ _ _ _ _ _ _ (shows _ _ _ _ _ _ _ _ _ w.rises z)
    (method_there _ _ _ _ _ _ _ _ _ w.rises z _ _ c.requires.runs)
    (now_there _ _ _ _ _ _ _ _ _ w.rises z _ _ c.requires.runs) w.entrance_is in
    let within = place_within _ _ _ _ _ _ _ _ _ w.rises z _ _ c.requires.runs in
    let least = c.saturating_add.ensures in let end = c.min-next.ensures in let fits = c.min-next.type_inv in
    let slice = ap length c.as_slice-subgoals.ensures in let room = c.as_slice-subgoals.type_inv in
    let next : c.min-next.result ≡ c.args.upper.place + 1 = omega (arith, within, least, end, fits, slice, room) in
    let e : slice_get c.args.planned.now.plan.subgoals (c.args.upper.place + 1) ≡ None =
    ap (slice_get c.args.planned.now.plan.subgoals) (sym next)
    ∙ ap (λ xs. slice_get xs c.min-next.result) (sym c.as_slice-subgoals.ensures)
    ∙ sym (got c.get.result c.as_slice-subgoals.result.now c.min-next.result c.get.ensures.lookup.3)
    ∙ ap (option_map (λ x. x.now)) c.in-None.is in (
      q.0,
      (
        q.1.0,
        (q.1.1.0, (q.1.1.1.1.0, ends_with _ _ _ _ _ _ _ _ _ w.rises z _ _ c.requires.runs _ _ h e)),
      ),
    )

pub returns-in-Some-clause-leads : goal.returns-in-Some-clause-leads
returns-in-Some-clause-leads c =
    if_answered _ _ c.open_next.result (λ shown f p below parent level over w.
    let z = runs_below _ _ _ _ _ _ _ _ _ w.rises w.purpose in
    let h = c.in_ok-left.ensures _ _ _ _ _ _ _ _ _ (shows _ _ _ _ _ _ _ _ _ w.rises z)
    (method_there _ _ _ _ _ _ _ _ _ w.rises z _ _ c.requires.runs)
    (now_there _ _ _ _ _ _ _ _ _ w.rises z _ _ c.requires.runs) w.entrance_is in
    let within = place_within _ _ _ _ _ _ _ _ _ w.rises z _ _ c.requires.runs in
    let least = c.saturating_add.ensures in let end = c.min-next.ensures in let fits = c.min-next.type_inv in
    let slice = ap length c.as_slice-subgoals.ensures in let room = c.as_slice-subgoals.type_inv in
    let next : c.min-next.result ≡ c.args.upper.place + 1 = omega (arith, within, least, end, fits, slice, room) in
    let e : slice_get c.args.planned.now.plan.subgoals (c.args.upper.place + 1) ≡ Some c.in-Some.subgoal.now =
    ap (slice_get c.args.planned.now.plan.subgoals) (sym next)
    ∙ ap (λ xs. slice_get xs c.min-next.result) (sym c.as_slice-subgoals.ensures)
    ∙ sym (got c.get.result c.as_slice-subgoals.result.now c.min-next.result c.get.ensures.lookup.3)
    ∙ ap (option_map (λ x. x.now)) c.in-Some.is in
    f p below parent over (follows_with _ _ _ _ _ _ _ _ _ w.rises z _ _ c.requires.runs _ _ h _ e))
    c.open_next.ensures.leads

pub returns-in-Some-clause-refused : goal.returns-in-Some-clause-refused
returns-in-Some-clause-refused c =
    if_refused _ _ c.open_next.result (λ refusal f p below parent level over w.
    let z = runs_below _ _ _ _ _ _ _ _ _ w.rises w.purpose in
    let h = c.in_ok-left.ensures _ _ _ _ _ _ _ _ _ (shows _ _ _ _ _ _ _ _ _ w.rises z)
    (method_there _ _ _ _ _ _ _ _ _ w.rises z _ _ c.requires.runs)
    (now_there _ _ _ _ _ _ _ _ _ w.rises z _ _ c.requires.runs) w.entrance_is in
    let within = place_within _ _ _ _ _ _ _ _ _ w.rises z _ _ c.requires.runs in
    let least = c.saturating_add.ensures in let end = c.min-next.ensures in let fits = c.min-next.type_inv in
    let slice = ap length c.as_slice-subgoals.ensures in let room = c.as_slice-subgoals.type_inv in
    let next : c.min-next.result ≡ c.args.upper.place + 1 = omega (arith, within, least, end, fits, slice, room) in
    let e : slice_get c.args.planned.now.plan.subgoals (c.args.upper.place + 1) ≡ Some c.in-Some.subgoal.now =
    ap (slice_get c.args.planned.now.plan.subgoals) (sym next)
    ∙ ap (λ xs. slice_get xs c.min-next.result) (sym c.as_slice-subgoals.ensures)
    ∙ sym (got c.get.result c.as_slice-subgoals.result.now c.min-next.result c.get.ensures.lookup.3)
    ∙ ap (option_map (λ x. x.now)) c.in-Some.is in
    f p below parent over (follows_with _ _ _ _ _ _ _ _ _ w.rises z _ _ c.requires.runs _ _ h _ e))
    c.open_next.ensures.refused

pub returns-in-Some-clause-falls : goal.returns-in-Some-clause-falls
returns-in-Some-clause-falls c = c.open_next.ensures.falls

pub returns-in-None-clause-leads : goal.returns-in-None-clause-leads
returns-in-None-clause-leads c =
    if_answered _ _ c.end.result (λ shown f p below parent level over w.
    let z = runs_below _ _ _ _ _ _ _ _ _ w.rises w.purpose in
    let h = c.in_ok-left.ensures _ _ _ _ _ _ _ _ _ (shows _ _ _ _ _ _ _ _ _ w.rises z)
    (method_there _ _ _ _ _ _ _ _ _ w.rises z _ _ c.requires.runs)
    (now_there _ _ _ _ _ _ _ _ _ w.rises z _ _ c.requires.runs) w.entrance_is in
    let within = place_within _ _ _ _ _ _ _ _ _ w.rises z _ _ c.requires.runs in
    let least = c.saturating_add.ensures in let end = c.min-next.ensures in let fits = c.min-next.type_inv in
    let slice = ap length c.as_slice-subgoals.ensures in let room = c.as_slice-subgoals.type_inv in
    let next : c.min-next.result ≡ c.args.upper.place + 1 = omega (arith, within, least, end, fits, slice, room) in
    let e : slice_get c.args.planned.now.plan.subgoals (c.args.upper.place + 1) ≡ None =
    ap (slice_get c.args.planned.now.plan.subgoals) (sym next)
    ∙ ap (λ xs. slice_get xs c.min-next.result) (sym c.as_slice-subgoals.ensures)
    ∙ sym (got c.get.result c.as_slice-subgoals.result.now c.min-next.result c.get.ensures.lookup.3)
    ∙ ap (option_map (λ x. x.now)) c.in-None.is in
    let u = ends_with _ _ _ _ _ _ _ _ _ w.rises z _ _ c.requires.runs _ _ h e in
    subst (λ ss. Leads c.args.proving.now.theory.now c.args.proving.now.statement.now c.args.store.now c.end.new.draft p
    shown (opened_from (λ q. rise below parent q) parent below ss p)) (sym u.remaining)
    (f p below parent over u)) c.end.ensures.leads

pub returns-in-None-clause-refused : goal.returns-in-None-clause-refused
returns-in-None-clause-refused c =
    if_refused _ _ c.end.result (λ refusal e p below parent level over w.
    subst (TellsCode (opened_from (λ q. rise below parent q) parent below parent.remaining p)) (sym e) tt)
    c.end.ensures.refused

pub returns-in-None-clause-falls : goal.returns-in-None-clause-falls
returns-in-None-clause-falls c =
    if_each _ c.end.result (λ shown. if_any shown _ (falls_still _ _ _ c.end.ensures.below))
