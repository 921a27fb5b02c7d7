-- A method without subgoals ends at once; else the first one is opened in the shared box.
use Rattle.std.specs.Option.{option_copied}
use Rattle.std.specs.Prelude.{None}
use Rattle.std.proofs.Common.{ap, subst, sym, ◌∙◌}
use Rattle.larch_prove_work.specs.ProveDraftDraft.{Leads}
use Rattle.larch_prove_work.proofs.ProveLevelsTelling.{tells_same}
use Rattle.larch_prove_work.specs.ProveLevelsLevelPlanned.{Planned}
use Rattle.larch_prove_meaning.specs.Levels.{all_constants, begun, with_constants}
use Rattle.larch_prove_resuming.proofs.Begins.{begins_done, none_made, none_to_open, opens_with}
use Rattle.larch_prove_resuming.proofs.beginning.begin_on.Goals as goal
use Rattle.larch_prove_work.proofs.ProveSettlingLeaving.{if_answered, if_refused}

pub end_at_once-requires-clause-ends : goal.end_at_once-requires-clause-ends
end_at_once-requires-clause-ends c =
    let q = c.requires.stands in let made = q.1.1.1.0 in let w = q.1.1.1.1.1 in
    let same = c.in_ok-planned.ensures.ok in
    let none = none_made _ _ _ _ q.0 q.1.0 q.1.1.0 c.args.planned made w c.as_slice.result.now
    (c.as_slice.ensures ∙ ap (λ (x : Planned). x.plan.subgoals) (c.deref.ensures ∙ same))
    (sym c.first.ensures.value ∙ ap option_copied c.in_default.is) in (
      with_constants (all_constants made) q.0,
      (
        q.1.0,
        (
          q.1.1.0,
          (
            q.1.1.1.1.0,
            none_to_open _ _ _ _ q.0 q.1.0 q.1.1.0 c.args.planned made w c.deref-in_default.result.now.method
                (ap (λ (x : Planned). x.method) (c.deref-in_default.ensures ∙ same)) none,
          ),
        ),
      ),
    )

pub returns-in_default-clause-begun : goal.returns-in_default-clause-begun
returns-in_default-clause-begun c =
    let same = c.in_ok-planned.ensures.ok in
    if_answered _ _ c.end_at_once.result (λ x h p k ks made over w.
    let none = none_made _ _ _ _ p k ks c.args.planned made w c.as_slice.result.now
    (c.as_slice.ensures ∙ ap (λ (y : Planned). y.plan.subgoals) (c.deref.ensures ∙ same))
    (sym c.first.ensures.value ∙ ap option_copied c.in_default.is) in
    subst (λ a. Leads c.args.proving.now.theory.now c.args.proving.now.statement.now c.end_at_once.new.store
    c.end_at_once.new.draft (with_constants (all_constants made) p) None a) (sym (begins_done made p none))
    (h (with_constants (all_constants made) p) k ks over
    (none_to_open _ _ _ _ p k ks c.args.planned made w c.deref-in_default.result.now.method
    (ap (λ (y : Planned). y.method) (c.deref-in_default.ensures ∙ same)) none)))
    c.end_at_once.ensures.leads

pub returns-in_default-clause-refused : goal.returns-in_default-clause-refused
returns-in_default-clause-refused c =
    let same = c.in_ok-planned.ensures.ok in
    if_refused _ _ c.end_at_once.result (λ r h p k ks made over w.
    let none = none_made _ _ _ _ p k ks c.args.planned made w c.as_slice.result.now
    (c.as_slice.ensures ∙ ap (λ (y : Planned). y.plan.subgoals) (c.deref.ensures ∙ same))
    (sym c.first.ensures.value ∙ ap option_copied c.in_default.is) in
    tells_same (begun made p) _ r (begins_done made p none)
    (h (with_constants (all_constants made) p) k ks over
    (none_to_open _ _ _ _ p k ks c.args.planned made w c.deref-in_default.result.now.method
    (ap (λ (y : Planned). y.method) (c.deref-in_default.ensures ∙ same)) none)))
    c.end_at_once.ensures.refused

pub open_first-requires-clause-opens : goal.open_first-requires-clause-opens
open_first-requires-clause-opens c =
    let q = c.requires.stands in let made = q.1.1.1.0 in let same = c.in_ok-planned.ensures.ok in (
      with_constants (all_constants made) q.0,
      (
        q.0.below,
        (
          q.0.current,
          (
            made.subgoals,
            (
              q.1.1.1.1.0,
              opens_with _ _ _ _ q.0 q.1.0 q.1.1.0 c.args.planned made q.1.1.1.1.1 c.open_shared.new.builder
                  c.in_ok-shared.shared c.deref-2.result.now.method c.deref-3.result.now.plan
                  (ap (λ (x : Planned). x.method) (c.deref-2.ensures ∙ same))
                  (ap (λ (x : Planned). x.plan) (c.deref-3.ensures ∙ same)) c.in_ok-shared.ensures.opens
                  c.in_ok-running.running (c.in_ok-running.ensures.planned ∙ same) c.in_ok-running.ensures.shared
                  c.in_ok-running.ensures.left c.deref-4.result.now.method
                  (ap (λ (x : Planned). x.method) (c.deref-4.ensures ∙ same)) c.as_slice.result.now
                  (c.as_slice.ensures ∙ ap (λ (x : Planned). x.plan.subgoals) (c.deref.ensures ∙ same))
                  c.in-Some.first.now (sym c.first.ensures.value ∙ ap option_copied c.in-Some.is),
            ),
          ),
        ),
      ),
    )

pub returns-clause-begun : goal.returns-clause-begun
returns-clause-begun c =
    let same = c.in_ok-planned.ensures.ok in
    if_answered _ _ c.open_first.result (λ x h p k ks made over w.
    h (with_constants (all_constants made) p) p.below p.current made.subgoals over
    (opens_with _ _ _ _ p k ks c.args.planned made w c.open_shared.new.builder c.in_ok-shared.shared
    c.deref-2.result.now.method c.deref-3.result.now.plan (ap (λ (y : Planned). y.method) (c.deref-2.ensures ∙ same))
    (ap (λ (y : Planned). y.plan) (c.deref-3.ensures ∙ same)) c.in_ok-shared.ensures.opens c.in_ok-running.running
    (c.in_ok-running.ensures.planned ∙ same) c.in_ok-running.ensures.shared c.in_ok-running.ensures.left
    c.deref-4.result.now.method (ap (λ (y : Planned). y.method) (c.deref-4.ensures ∙ same)) c.as_slice.result.now
    (c.as_slice.ensures ∙ ap (λ (y : Planned). y.plan.subgoals) (c.deref.ensures ∙ same)) c.in-Some.first.now
    (sym c.first.ensures.value ∙ ap option_copied c.in-Some.is))) c.open_first.ensures.leads

pub returns-clause-refused : goal.returns-clause-refused
returns-clause-refused c =
    let same = c.in_ok-planned.ensures.ok in
    if_refused _ _ c.open_first.result (λ r h p k ks made over w.
    h (with_constants (all_constants made) p) p.below p.current made.subgoals over
    (opens_with _ _ _ _ p k ks c.args.planned made w c.open_shared.new.builder c.in_ok-shared.shared
    c.deref-2.result.now.method c.deref-3.result.now.plan (ap (λ (y : Planned). y.method) (c.deref-2.ensures ∙ same))
    (ap (λ (y : Planned). y.plan) (c.deref-3.ensures ∙ same)) c.in_ok-shared.ensures.opens c.in_ok-running.running
    (c.in_ok-running.ensures.planned ∙ same) c.in_ok-running.ensures.shared c.in_ok-running.ensures.left
    c.deref-4.result.now.method (ap (λ (y : Planned). y.method) (c.deref-4.ensures ∙ same)) c.as_slice.result.now
    (c.as_slice.ensures ∙ ap (λ (y : Planned). y.plan.subgoals) (c.deref.ensures ∙ same)) c.in-Some.first.now
    (sym c.first.ensures.value ∙ ap option_copied c.in-Some.is))) c.open_first.ensures.refused
