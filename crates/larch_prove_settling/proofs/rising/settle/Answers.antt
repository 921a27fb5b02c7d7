-- Whether the current goal is proved, and what follows from that.
use Rattle.larch_prove_draft.specs.ProveMeaningLevels.{settle_goal}
use Rattle.larch_prove_settling.proofs.Leading.{lead_now}
use Rattle.larch_prove_settling.proofs.Leaving.{if_answered, if_refused}
use Rattle.larch_prove_settling.proofs.rising.settle.Goals as goal

pub line_of_goal-requires-clause-ready : goal.line_of_goal-requires-clause-ready
line_of_goal-requires-clause-ready c = c.requires.stands.1.1.1.1.ready

pub line_of_goal-requires-clause-stored : goal.line_of_goal-requires-clause-stored
line_of_goal-requires-clause-stored c = c.requires.stands.1.1.1.1.stored

pub rise_on-requires-clause-led : goal.rise_on-requires-clause-led
rise_on-requires-clause-led c =
    let q = c.requires.stands in (
      q.0,
      (
        settle_goal q.0,
        (
          q.1.1.1.0,
          lead_now c.args.proving.now.theory.now c.args.proving.now.statement.now c.args.store.now c.args.draft.now
              c.line_of_goal.new.builder q.1.0 q.1.1.0 q.0 c.in_ok-shown.shown q.1.1.1.1 c.in_ok-shown.ensures.extends
              c.in_ok-shown.ensures.proved c.in_ok-shown.ensures.says c.in_ok-shown.ensures.open,
        ),
      ),
    )

pub returns-clause-settled : goal.returns-clause-settled
returns-clause-settled c =
    if_answered _ _ c.rise_on.result (λ _ f p k ks over w.
    f p (settle_goal p) over
    (lead_now c.args.proving.now.theory.now c.args.proving.now.statement.now c.args.store.now c.args.draft.now
    c.line_of_goal.new.builder k ks p c.in_ok-shown.shown w c.in_ok-shown.ensures.extends c.in_ok-shown.ensures.proved
    c.in_ok-shown.ensures.says c.in_ok-shown.ensures.open)) c.rise_on.ensures.leads

pub returns-clause-refused : goal.returns-clause-refused
returns-clause-refused c =
    if_refused _ _ c.rise_on.result (λ refusal f p k ks over w.
    f p (settle_goal p) over
    (lead_now c.args.proving.now.theory.now c.args.proving.now.statement.now c.args.store.now c.args.draft.now
    c.line_of_goal.new.builder k ks p c.in_ok-shown.shown w c.in_ok-shown.ensures.extends c.in_ok-shown.ensures.proved
    c.in_ok-shown.ensures.says c.in_ok-shown.ensures.open)) c.rise_on.ensures.refused
