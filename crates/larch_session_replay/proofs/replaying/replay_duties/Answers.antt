-- Duty by duty.
use Rattle.std.proofs.Common.{◌<◌, ◌+◌, ap, arith, length, List, map, subst, sym, ◌∙◌}
use Rattle.std.specs.Prelude.{sum_by}
use Rattle.std.proofs.lemmas.List.Sums.{sum_by-cons, sum_by_push}
use Rattle.larch_base.specs.declared.limits.TheConstants.{MAX_DUTIES}
use Rattle.larch_session_blocks.specs.DutiesMeaningClaims.{Claim}
use Rattle.larch_session_blocks.specs.SessionMeaningTraits.{script_duty}
use Rattle.larch_session_replay.proofs.Following.{Progress, all_done, at_first, empty_list, fewer, next_follows}
use Rattle.larch_session_replay.proofs.Following.{one_more}
use Rattle.larch_session_replay.proofs.replaying.replay_duties.Goals as goal
use Rattle.larch_session_replay.specs.Replayed.{CanFollow, IsReplay, answer_of}
use Rattle.larch_session_sources.specs.Steps.{block_steps, script_steps}
use Rattle.larch_session_replay.specs.declared.replayed.Replayed.{Replayed}

pub loop-claim-init : goal.loop-claim-init
loop-claim-init g c =
    let e = c.into_iter-claim-iterator.ensures.into_iter_gives.0 ∙ c.into_vec-claim-items.ensures in
    let none = ap (sum_by (λ (r : Replayed). r.steps)) c.new-replays.ensures in
    let same = ap (λ (xs : List Claim). script_steps c.args.script.now (map script_duty xs)) e in (
      subst (λ xs. Progress c.args.limit c.args.script.now c.args.claims xs c.new-replays.result) (sym e)
          (subst (λ rs. Progress c.args.limit c.args.script.now c.args.claims c.args.claims rs)
          (sym c.new-replays.ensures) (at_first c.args.limit c.args.script.now c.args.claims)),
      (omega (arith, none), omega (arith, same)),
    )

pub loop-claim-preserved : goal.loop-claim-preserved
loop-claim-preserved g c =
    let i = c.loop-claim.invariant in
    let left = c.in-Some.ensures.steps.0 in
    let told = c.in_ok-replayed.ensures in
    let before = subst (λ xs. Progress c.args.limit c.args.script.now c.args.claims xs c.loop-claim.replays) left i.0 in
    let number = told.number ∙ ap (λ (rs : List Replayed). 1 + length rs) c.as_slice.ensures in
    let replay = subst (λ (rs : List Replayed). IsReplay c.args.limit c.args.script.now (map answer_of rs)
    c.in_ok-replayed.replayed) c.as_slice.ensures told.replay in
    let taken = told.taken in
    let most = told.most in
    let so_far = i.1.0 in
    let bound = i.1.1 in
    let sum = ap (sum_by (λ (r : Replayed). r.steps)) c.in_ok-push.ensures.ok
    ∙ sum_by_push (λ (r : Replayed). r.steps) c.loop-claim.replays c.in_ok-replayed.replayed in
    let split = ap (λ (xs : List Claim). script_steps c.args.script.now (map script_duty xs)) left
    ∙ sum_by-cons (λ d. block_steps c.args.script.now d.label) (script_duty c.in-Some.claim)
    (map script_duty c.next.new.self.rest.items) in (
      subst (λ rs. Progress c.args.limit c.args.script.now c.args.claims c.next.new.self.rest.items rs)
          (sym c.in_ok-push.ensures.ok)
          (one_more c.args.limit c.args.script.now c.args.claims c.next.new.self.rest.items c.in-Some.claim
          c.loop-claim.replays c.in_ok-replayed.replayed before told.claim number replay),
      (omega (arith, so_far, taken, sum), omega (arith, bound, most, split)),
    )

pub replay_duty-requires-clause-few : goal.replay_duty-requires-clause-few
replay_duty-requires-clause-few g c =
    subst (λ (rs : List Replayed). length rs < MAX_DUTIES) (sym c.as_slice.ensures)
    (fewer c.args.limit c.args.script.now c.args.claims c.next.new.self.rest.items c.in-Some.claim c.loop-claim.replays
    c.requires.claims
    (subst (λ xs. Progress c.args.limit c.args.script.now c.args.claims xs c.loop-claim.replays)
    c.in-Some.ensures.steps.0 c.loop-claim.invariant.0))

pub replay_duty-requires-clause-follows : goal.replay_duty-requires-clause-follows
replay_duty-requires-clause-follows g c =
    subst (λ (rs : List Replayed). CanFollow (map answer_of rs) (script_duty c.in-Some.claim)) (sym c.as_slice.ensures)
    (next_follows c.args.limit c.args.script.now c.args.claims c.next.new.self.rest.items c.in-Some.claim
    c.loop-claim.replays c.requires.claims
    (subst (λ xs. Progress c.args.limit c.args.script.now c.args.claims xs c.loop-claim.replays)
    c.in-Some.ensures.steps.0 c.loop-claim.invariant.0))

pub returns-clause-answers : goal.returns-clause-answers
returns-clause-answers g c =
    all_done c.args.limit c.args.script.now c.args.claims c.loop-claim.claim-iterator.rest.items c.loop-claim.replays
    (empty_list c.loop-claim.claim-iterator.rest.items
    (sym c.loop-claim.claim-iterator.rest.ok.0 ∙ c.in-None.ensures.steps.0))
    c.loop-claim.invariant.0

pub returns-clause-replays : goal.returns-clause-replays
returns-clause-replays g c = c.loop-claim.invariant.0.replays

pub returns-clause-taken : goal.returns-clause-taken
returns-clause-taken g c = c.loop-claim.invariant.1.0

pub returns-clause-most : goal.returns-clause-most
returns-clause-most g c = let bound = c.loop-claim.invariant.1.1 in omega (arith, bound)
