-- The method's end says that the goal is true, and the levels rise from there.
use Rattle.std.proofs.Common.{◌∷◌, sym}
use Rattle.larch_prove_draft.proofs.ProveInvariantHeld.{boxes_held}
use Rattle.larch_prove_draft.specs.ProveMeaningLevels.{rise}
use Rattle.larch_prove_settling.proofs.Leaving.{if_answered, if_refused}
use Rattle.larch_prove_settling.proofs.MethodEnds.{none_leads, none_left, stood_there}
use Rattle.larch_prove_settling.proofs.beginning.end_at_once.Goals as goal

pub end_on-requires-clause-left : goal.end_on-requires-clause-left
end_on-requires-clause-left c =
    (c.args.draft.now.builder, none_left _ _ _ _ _ _ _ _ c.requires.ends.1.1.1.1)

pub end_on-requires-clause-theory : goal.end_on-requires-clause-theory
end_on-requires-clause-theory c =
    let q = c.requires.ends in
    sym (boxes_held c.args.proving.now.theory.now c.args.proving.now.statement.now c.args.draft.now.builder
    (q.1.0 ∷ q.1.1.0) q.1.1.1.1.stands.holds.held).0

pub rise_on-requires-clause-led : goal.rise_on-requires-clause-led
rise_on-requires-clause-led c =
    let q = c.requires.ends in let p = q.0 in let w = q.1.1.1.1 in
    let said = c.in_ok-line.ensures _ _ _ q.1.0 q.1.1.0 w.stands.current.0.goal w.stands.current.0.way
    (none_left _ _ _ _ _ _ _ _ w) (stood_there _ _ _ _ _ _ _ _ w) in (
      p,
      (
        rise p.below p.current p,
        (
          q.1.1.1.0,
          none_leads _ _ _ _ _ _ _ _ w c.end_on.new.builder c.in_ok-line.line said.0 said.1,
        ),
      ),
    )

pub returns-clause-leads : goal.returns-clause-leads
returns-clause-leads c =
    if_answered _ _ c.rise_on.result (λ _ f p k ks over w.
    let said = c.in_ok-line.ensures _ _ _ k ks w.stands.current.0.goal w.stands.current.0.way
    (none_left _ _ _ _ _ _ _ _ w) (stood_there _ _ _ _ _ _ _ _ w) in
    f p (rise p.below p.current p) over
    (none_leads _ _ _ _ _ _ _ _ w c.end_on.new.builder c.in_ok-line.line said.0 said.1)) c.rise_on.ensures.leads

pub returns-clause-refused : goal.returns-clause-refused
returns-clause-refused c =
    if_refused _ _ c.rise_on.result (λ refusal f p k ks over w.
    let said = c.in_ok-line.ensures _ _ _ k ks w.stands.current.0.goal w.stands.current.0.way
    (none_left _ _ _ _ _ _ _ _ w) (stood_there _ _ _ _ _ _ _ _ w) in
    f p (rise p.below p.current p) over
    (none_leads _ _ _ _ _ _ _ _ w c.end_on.new.builder c.in_ok-line.line said.0 said.1)) c.rise_on.ensures.refused
