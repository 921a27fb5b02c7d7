-- The subgoal that was left is noted, and the next one is the open one.
use Rattle.larch_prove_draft.specs.Draft.{below_in}
use Rattle.larch_prove_settling.proofs.Leaving.{if_answered, if_any, if_refused}
use Rattle.larch_prove_settling.proofs.Measures.{falls_by, fewer_left}
use Rattle.larch_prove_settling.proofs.Noting.{next_noted}
use Rattle.larch_prove_settling.proofs.methods.open_next.Goals as goal

pub open_now-requires : goal.open_now-requires
open_now-requires c =
    let r = c.requires.follows in let p = r.0 in let below = r.1.0 in let parent = r.1.1.0 in
    let noted = next_noted _ _ _ _ p below parent _ _ _ r.1.1.1.1 c.note_left.new.running c.in_ok-note_left.ensures in
    record { opens = (p, (below, (parent, (parent.remaining, (r.1.1.1.0, noted))))) }

pub returns-clause-leads : goal.returns-clause-leads
returns-clause-leads c =
    if_answered _ _ c.open_now.result (λ shown f p below parent over w.
    f p below parent parent.remaining over
    (next_noted _ _ _ _ p below parent _ _ _ w c.note_left.new.running c.in_ok-note_left.ensures))
    c.open_now.ensures.leads

pub returns-clause-refused : goal.returns-clause-refused
returns-clause-refused c =
    if_refused _ _ c.open_now.result (λ refusal f p below parent over w.
    f p below parent parent.remaining over
    (next_noted _ _ _ _ p below parent _ _ _ w c.note_left.new.running c.in_ok-note_left.ensures))
    c.open_now.ensures.refused

pub returns-clause-falls : goal.returns-clause-falls
returns-clause-falls c =
    if_answered _ _ c.open_now.result (λ shown e. if_any shown _ (falls_by (below_in c.args.draft.now) _
    c.args.draft.now.current _ e
    (fewer_left c.args.left _ c.note_left.new.running c.in_ok-note_left.ensures c.requires.room)))
    c.open_now.ensures.below
