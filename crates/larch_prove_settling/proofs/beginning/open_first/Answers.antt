-- The first subgoal is opened, and the levels rise from there.
use Rattle.larch_prove_draft.specs.ProveMeaningLevels.{opened_from, rise}
use Rattle.larch_prove_settling.proofs.Leaving.{if_answered, if_refused}
use Rattle.larch_prove_settling.proofs.beginning.open_first.Goals as goal
use Rattle.larch_store.proofs.Growth.{grows_trans}

pub open_now-requires : goal.open_now-requires
open_now-requires c = record { opens = c.requires.opens }

pub rise_on-requires-clause-led : goal.rise_on-requires-clause-led
rise_on-requires-clause-led c =
    let q = c.requires.opens in let p = q.0 in let below = q.1.0 in let parent = q.1.1.0 in let gs = q.1.1.1.0 in (
      p,
      (
        opened_from (λ r. rise below parent r) parent below gs p,
        (q.1.1.1.1.0, c.in_ok-shown.ensures.leads p below parent gs q.1.1.1.1.0 q.1.1.1.1.1),
      ),
    )

pub returns-clause-leads : goal.returns-clause-leads
returns-clause-leads c =
    if_answered _ _ c.rise_on.result (λ _ f p below parent gs over w.
    f p (opened_from (λ r. rise below parent r) parent below gs p) over
    (c.in_ok-shown.ensures.leads p below parent gs over w)) c.rise_on.ensures.leads

pub returns-clause-refused : goal.returns-clause-refused
returns-clause-refused c =
    if_refused _ _ c.rise_on.result (λ refusal f p below parent gs over w.
    f p (opened_from (λ r. rise below parent r) parent below gs p) over
    (c.in_ok-shown.ensures.leads p below parent gs over w)) c.rise_on.ensures.refused

pub returns-clause-grows : goal.returns-clause-grows
returns-clause-grows c = grows_trans _ _ _ c.in_ok-shown.ensures.grows c.rise_on.ensures.grows
