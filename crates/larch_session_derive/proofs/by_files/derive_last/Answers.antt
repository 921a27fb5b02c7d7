-- The duties are replayed, and the last is derived.
use Rattle.std.proofs.Common.{◌-◌, ◌^◌, ◌≡◌, ◌<◌, ◌∙◌, List, ap, arith, length, min, subst, sym}
use Rattle.std.specs.Prelude.{sum_by}
use Rattle.larch_session_derive.proofs.Derived.{last_derived, replayed_are, some_replayed}
use Rattle.larch_session_derive.proofs.by_files.derive_last.Goals as goal
use Rattle.larch_session_derive.specs.Parts.{AreReplayed}
use Rattle.larch_session_replay.specs.declared.replayed.Replayed.{Replayed}

pub derive_replayed-requires-clause-replayed : goal.derive_replayed-requires-clause-replayed
derive_replayed-requires-clause-replayed g c =
    subst AreReplayed (sym c.as_slice.ensures)
    (replayed_are c.args.limit c.args.script.now c.args.claims c.in_ok-replays.replays c.in_ok-replays.ensures.answers
    c.requires.claims c.requires.order c.in_ok-replays.ensures.replays)

pub derive_replayed-requires-clause-some : goal.derive_replayed-requires-clause-some
derive_replayed-requires-clause-some g c =
    subst (λ (rs : List Replayed). 0 < length rs) (sym c.as_slice.ensures)
    (some_replayed c.args.limit c.args.script.now c.args.claims c.in_ok-replays.replays c.in_ok-replays.ensures.answers
    c.requires.some)

pub returns-clause-derived : goal.returns-clause-derived
returns-clause-derived g c =
    last_derived c.in_ok-replays.replays _ c.in_ok-derived.derived c.in_ok-replays.ensures.answers
    (λ front last is. c.in_ok-derived.ensures front last (c.as_slice.ensures ∙ is))

pub returns-clause-work : goal.returns-clause-work
returns-clause-work g c =
    let taken = c.in_ok-replays.ensures.taken in
    let sum : sum_by (λ (r : Replayed). r.steps) c.in_ok-replays.replays
    ≡ c.replay_duties.new.steps - c.args.steps.now = omega (arith, taken) in
    c.steps_of.ensures
    ∙ ap (λ n. min n (2 ^ 64 - 1)) (ap (sum_by (λ (r : Replayed). r.steps)) c.as_slice-2.ensures ∙ sum)
