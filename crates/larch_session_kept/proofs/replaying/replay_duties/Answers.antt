-- Duty by duty.
use Rattle.std.proofs.Common.{◌<◌, ◌≤◌, ◌+◌, ◌++◌, ◌∷◌, [], ap, arith, length, List, map, refl, subst, sym, ◌∙◌}
use Rattle.std.specs.Prelude.{sum_by}
use Rattle.std.proofs.lemmas.List.Sums.{sum_by_push}
use Rattle.larch_base.specs.declared.limits.TheConstants.{MAX_DUTIES}
use Rattle.larch_prove_meaning.specs.Redo.{redone}
use Rattle.larch_session_blocks.specs.SessionMeaningTraits.{script_duty}
use Rattle.larch_session_kept.proofs.Wanted.{Keeping, all_kept, at_first as kept_at_first, next_most}
use Rattle.larch_session_kept.proofs.Wanted.{one_more as kept_more}
use Rattle.larch_session_kept.proofs.replaying.replay_duties.Goals as goal
use Rattle.larch_session_kept.specs.Kept.{limit_in, records_in, replayed_before, replayed_of}
use Rattle.larch_session_kept.specs.Kept.{task_behind}
use Rattle.larch_session_replay.proofs.Following.{Progress, all_done, at_first, empty_list, fewer, next_follows}
use Rattle.larch_session_replay.proofs.Following.{one_more}
use Rattle.larch_session_replay.specs.Replayed.{CanFollow, IsReplay, answer_of}
use Rattle.larch_session_replay.specs.declared.replayed.Replayed.{Replayed}

pub loop-claim-init : goal.loop-claim-init
loop-claim-init g c =
    let limit = limit_in c.args.replaying.now.before.now in
    let script = c.args.replaying.now.script.now.value in
    let stem = c.args.replaying.now.stem.now in
    let before = c.args.replaying.now.before.now in
    let first = records_in c.args.base.now in
    let e = c.into_iter-claim-iterator.ensures.into_iter_gives.0 ∙ c.into_vec-claim-items.ensures in
    let none = ap (sum_by (λ (r : Replayed). r.steps)) c.new-replays.ensures in (
      subst (λ xs. Progress limit script c.args.claims xs c.new-replays.result) (sym e)
          (subst (λ rs. Progress limit script c.args.claims c.args.claims rs) (sym c.new-replays.ensures)
          (at_first limit script c.args.claims)),
      (
        subst (λ xs. Keeping limit stem script before first c.args.claims c.new-replays.result xs first
            c.args.steps.now c.args.steps.now) (sym e)
            (subst (λ rs. Keeping limit stem script before first c.args.claims rs c.args.claims first
            c.args.steps.now c.args.steps.now) (sym c.new-replays.ensures)
            (kept_at_first limit stem script before first c.args.claims c.args.steps.now)),
        (refl, omega (arith, none)),
      ),
    )

pub loop-claim-preserved : goal.loop-claim-preserved
loop-claim-preserved g c =
    let limit = limit_in c.args.replaying.now.before.now in
    let script = c.args.replaying.now.script.now.value in
    let stem = c.args.replaying.now.stem.now in
    let before = c.args.replaying.now.before.now in
    let first = records_in c.args.base.now in
    let rest = c.next.new.self.rest.items in
    let i = c.loop-claim.invariant in
    let left = c.in-Some.ensures.steps.0 in
    let told = c.in_ok-replayed.ensures in
    let progress = subst (λ xs. Progress limit script c.args.claims xs c.loop-claim.replays) left i.0 in
    let keeping = subst (λ xs. Keeping limit stem script before first c.args.claims c.loop-claim.replays xs
    (records_in c.loop-claim.base) c.args.steps.now c.loop-claim.steps) left i.1.0 in
    let number = told.number ∙ ap (λ (rs : List Replayed). 1 + length rs) c.as_slice.ensures in
    let replay = subst (λ (rs : List Replayed). IsReplay limit script (map answer_of rs) c.in_ok-replayed.replayed)
    c.as_slice.ensures told.replay in
    let same = told.replayed ∙ ap (λ (rs : List Replayed). task_behind stem script (map answer_of rs)
    (script_duty c.in-Some.claim)) c.as_slice.ensures in
    let most = subst (λ (rs : List Replayed). c.replay_duty.new.steps ≤ c.loop-claim.steps
    + redone (task_behind stem script (map answer_of rs) (script_duty c.in-Some.claim))
    (replayed_before before (task_behind stem script (map answer_of rs) (script_duty c.in-Some.claim))))
    c.as_slice.ensures told.most in
    let taken = told.taken in
    let so_far = i.1.1.1 in
    let sum = ap (sum_by (λ (r : Replayed). r.steps)) c.in_ok-push-2.ensures.ok
    ∙ sum_by_push (λ (r : Replayed). r.steps) c.loop-claim.replays c.in_ok-replayed.replayed in (
      subst (λ rs. Progress limit script c.args.claims rest rs) (sym c.in_ok-push-2.ensures.ok)
          (one_more limit script c.args.claims rest c.in-Some.claim c.loop-claim.replays c.in_ok-replayed.replayed
          progress told.claim number replay),
      (
        subst (λ rs. Keeping limit stem script before first c.args.claims rs rest (records_in c.push.new.self)
            c.args.steps.now c.replay_duty.new.steps) (sym c.in_ok-push-2.ensures.ok)
            (subst (λ base. Keeping limit stem script before first c.args.claims
            (c.loop-claim.replays ++ c.in_ok-replayed.replayed ∷ []) rest (records_in base) c.args.steps.now
            c.replay_duty.new.steps) (sym c.in_ok-push.ensures.ok)
            (kept_more limit stem script before first c.args.claims c.loop-claim.replays c.in_ok-replayed.replayed
            c.in-Some.claim rest (records_in c.loop-claim.base) (replayed_of c.in_ok-replayed.record)
            c.args.steps.now c.loop-claim.steps c.replay_duty.new.steps keeping told.claim number replay same most)),
        (ap limit_in c.in_ok-push.ensures.ok ∙ i.1.1.0, omega (arith, so_far, taken, sum)),
      ),
    )

pub returns-in_err-replayed-clause-most : goal.returns-in_err-replayed-clause-most
returns-in_err-replayed-clause-most g c =
    let limit = limit_in c.args.replaying.now.before.now in
    let script = c.args.replaying.now.script.now.value in
    let stem = c.args.replaying.now.stem.now in
    let before = c.args.replaying.now.before.now in
    let first = records_in c.args.base.now in
    let keeping = subst (λ xs. Keeping limit stem script before first c.args.claims c.loop-claim.replays xs
    (records_in c.loop-claim.base) c.args.steps.now c.loop-claim.steps) c.in-Some.ensures.steps.0
    c.loop-claim.invariant.1.0 in
    let most = subst (λ (rs : List Replayed). c.replay_duty.new.steps ≤ c.loop-claim.steps
    + redone (task_behind stem script (map answer_of rs) (script_duty c.in-Some.claim))
    (replayed_before before (task_behind stem script (map answer_of rs) (script_duty c.in-Some.claim))))
    c.as_slice.ensures c.replay_duty.ensures.most in
    next_most limit stem script before first c.args.claims c.loop-claim.replays c.in-Some.claim
    c.next.new.self.rest.items (records_in c.loop-claim.base) c.args.steps.now c.loop-claim.steps
    c.replay_duty.new.steps keeping most

pub returns-in_err-push-2-clause-most : goal.returns-in_err-push-2-clause-most
returns-in_err-push-2-clause-most g c =
    let limit = limit_in c.args.replaying.now.before.now in
    let script = c.args.replaying.now.script.now.value in
    let stem = c.args.replaying.now.stem.now in
    let before = c.args.replaying.now.before.now in
    let first = records_in c.args.base.now in
    let keeping = subst (λ xs. Keeping limit stem script before first c.args.claims c.loop-claim.replays xs
    (records_in c.loop-claim.base) c.args.steps.now c.loop-claim.steps) c.in-Some.ensures.steps.0
    c.loop-claim.invariant.1.0 in
    let most = subst (λ (rs : List Replayed). c.replay_duty.new.steps ≤ c.loop-claim.steps
    + redone (task_behind stem script (map answer_of rs) (script_duty c.in-Some.claim))
    (replayed_before before (task_behind stem script (map answer_of rs) (script_duty c.in-Some.claim))))
    c.as_slice.ensures c.replay_duty.ensures.most in
    next_most limit stem script before first c.args.claims c.loop-claim.replays c.in-Some.claim
    c.next.new.self.rest.items (records_in c.loop-claim.base) c.args.steps.now c.loop-claim.steps
    c.replay_duty.new.steps keeping most

pub replay_duty-requires-clause-few : goal.replay_duty-requires-clause-few
replay_duty-requires-clause-few g c =
    subst (λ (rs : List Replayed). length rs < MAX_DUTIES) (sym c.as_slice.ensures)
    (fewer (limit_in c.args.replaying.now.before.now) c.args.replaying.now.script.now.value c.args.claims
    c.next.new.self.rest.items c.in-Some.claim c.loop-claim.replays c.requires.claims
    (subst (λ xs. Progress (limit_in c.args.replaying.now.before.now) c.args.replaying.now.script.now.value
    c.args.claims xs c.loop-claim.replays) c.in-Some.ensures.steps.0 c.loop-claim.invariant.0))

pub replay_duty-requires-clause-follows : goal.replay_duty-requires-clause-follows
replay_duty-requires-clause-follows g c =
    subst (λ (rs : List Replayed). CanFollow (map answer_of rs) (script_duty c.in-Some.claim)) (sym c.as_slice.ensures)
    (next_follows (limit_in c.args.replaying.now.before.now) c.args.replaying.now.script.now.value c.args.claims
    c.next.new.self.rest.items c.in-Some.claim c.loop-claim.replays c.requires.claims
    (subst (λ xs. Progress (limit_in c.args.replaying.now.before.now) c.args.replaying.now.script.now.value
    c.args.claims xs c.loop-claim.replays) c.in-Some.ensures.steps.0 c.loop-claim.invariant.0))

pub returns-clause-answers : goal.returns-clause-answers
returns-clause-answers g c =
    all_done (limit_in c.args.replaying.now.before.now) c.args.replaying.now.script.now.value c.args.claims
    c.loop-claim.claim-iterator.rest.items c.loop-claim.replays
    (empty_list c.loop-claim.claim-iterator.rest.items
    (sym c.loop-claim.claim-iterator.rest.ok.0 ∙ c.in-None.ensures.steps.0))
    c.loop-claim.invariant.0

pub returns-clause-replays : goal.returns-clause-replays
returns-clause-replays g c = c.loop-claim.invariant.0.replays

pub returns-clause-base : goal.returns-clause-base
returns-clause-base g c =
    all_kept (limit_in c.args.replaying.now.before.now) c.args.replaying.now.stem.now
    c.args.replaying.now.script.now.value c.args.replaying.now.before.now (records_in c.args.base.now) c.args.claims
    c.loop-claim.replays c.loop-claim.claim-iterator.rest.items (records_in c.loop-claim.base) c.args.steps.now
    c.loop-claim.steps (empty_list c.loop-claim.claim-iterator.rest.items
    (sym c.loop-claim.claim-iterator.rest.ok.0 ∙ c.in-None.ensures.steps.0)) c.loop-claim.invariant.1.0

pub returns-clause-taken : goal.returns-clause-taken
returns-clause-taken g c = c.loop-claim.invariant.1.1.1

pub returns-clause-most : goal.returns-clause-most
returns-clause-most g c = let bound = c.loop-claim.invariant.1.0.most in omega (arith, bound)
