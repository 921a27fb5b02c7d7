-- The formula is added to a level that is ready, which is one of the proof that the definition has then.
use Rattle.std.proofs.Common.{refl}
use Rattle.std.proofs.lemmas.Result.{err_from_is_err_and}
use Rattle.larch_prove_settling.proofs.Leading.{lead_by}
use Rattle.larch_prove_settling.proofs.Proved.{derived_as, derived_refused, made_alike, made_proof}
use Rattle.larch_prove_settling.proofs.Proved.{tells_as}
use Rattle.larch_prove_settling.proofs.Proved.{made_rises, made_stands, made_stays, ready_below, worked_on}
use Rattle.larch_prove_settling.proofs.Proved.{worked_stored}
use Rattle.larch_prove_settling.proofs.rising.add_proved.Goals as goal

pub derive-requires-clause-ready : goal.derive-requires-clause-ready
derive-requires-clause-ready c =
    let r = c.requires.rises in ready_below _ _ _ _ r.0 r.1.0 r.1.1.0 r.1.1.1.0 _ _ r.1.1.1.1.1

pub line_of_goal-requires-clause-stored : goal.line_of_goal-requires-clause-stored
line_of_goal-requires-clause-stored c =
    let r = c.requires.rises in
    worked_stored _ _ _ _ _ c.in_ok-derive.ensures.grows c.in_ok-derive.ensures.rest c.in_ok-derive.ensures.ready
    r.1.1.1.1.1.rises.stored

pub returns-in_err-derive-clause-refused : goal.returns-in_err-derive-clause-refused
returns-in_err-derive-clause-refused c =
    let q = err_from_is_err_and c.from_residual-in_err-derive.result c.from_residual-in_err-derive.ensures.1 in
    rw (q.1, q.2) (λ p below parent level over z.
    derived_refused _ parent below p c.in_err-derive.field-0.0
    (tells_as _ _ _ _ p below parent level _ _ z _ _ _ _ over c.in_ok-equation.ensures.sides
    c.in_err-derive.ensures.refused))

pub returns-clause-leads : goal.returns-clause-leads
returns-clause-leads c = λ p below parent level over z.
    let t = c.args.proving.now.theory.now in let s = c.args.proving.now.statement.now in
    let d = c.args.draft.now in let store = c.args.store.now in let more = c.derive.new.store in
    let e = record d {
      builder = c.derive.new.builder;
      current = c.derive.new.level;
      next_derived = c.derive.new.next;
    } in
    let made = derived_as t s store d p below parent level _ c.args.line z _ _ _ _ over c.in_ok-equation.ensures.sides
    c.in_ok-derive.ensures.derived in
    lead_by t s more e c.line_of_goal.new.builder (worked_on t s store d p below parent level _ c.args.line z more e)
    z.rises.others p (made_proof t s store d p below parent level _ c.args.line z more e) c.in_ok-shown.shown _
    (made_alike t s store d p below parent level _ c.args.line z more e)
    (made_stays t s store d p below parent level _ c.args.line z more e made)
    (made_rises t s store d p below parent level _ c.args.line z more e made)
    (made_stands t s store d p below parent level _ c.args.line z more e c.in_ok-derive.ensures.grows
    c.in_ok-derive.ensures.extends c.in_ok-derive.ensures.rest c.in_ok-derive.ensures.ready refl refl refl
    c.in_ok-derive.ensures.next refl refl)
    c.in_ok-shown.ensures.extends c.in_ok-shown.ensures.proved c.in_ok-shown.ensures.says c.in_ok-shown.ensures.open
