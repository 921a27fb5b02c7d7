use Rattle.larch_derive.proofs.Growth.{extends_trans, known_left, known_right, stays_known, stays_said}
use Rattle.larch_prove_adding.proofs.Staying.{said_stays}
use Rattle.larch_prove_adding.proofs.normal.normal_sides.Goals as goal
use Rattle.larch_store.proofs.Growth.{belongs_stays, grows_trans}

pub normal_form-requires-clause-known : goal.normal_form-requires-clause-known
normal_form-requires-clause-known c = known_left _ _ _ _ c.requires.equation

pub normal_form-requires-2-clause-known : goal.normal_form-requires-2-clause-known
normal_form-requires-2-clause-known c =
    stays_known _ _ _ c.in_ok-left.ensures.extends (known_right _ _ _ _ c.requires.equation)

pub returns-in_err-right-clause-grows : goal.returns-in_err-right-clause-grows
returns-in_err-right-clause-grows c = grows_trans _ _ _ c.in_ok-left.ensures.grows c.in_err-right.ensures.grows

pub returns-in_err-right-clause-extends : goal.returns-in_err-right-clause-extends
returns-in_err-right-clause-extends c =
    extends_trans _ _ _ c.in_ok-left.ensures.extends c.in_err-right.ensures.extends

pub between-requires-clause-left : goal.between-requires-clause-left
between-requires-clause-left c = belongs_stays _ _ _ c.in_ok-right.ensures.grows c.in_ok-left.ensures.belongs

pub returns-in_err-equation-clause-grows : goal.returns-in_err-equation-clause-grows
returns-in_err-equation-clause-grows c = grows_trans _ _ _ c.in_ok-left.ensures.grows c.in_ok-right.ensures.grows

pub returns-in_err-equation-clause-extends : goal.returns-in_err-equation-clause-extends
returns-in_err-equation-clause-extends c =
    let x = extends_trans _ _ _ c.in_ok-left.ensures.extends c.in_ok-right.ensures.extends in
    extends_trans _ _ _ x
    (c.in_err-equation.ensures.extends _ _
    (stays_said _ _ _ _ c.in_ok-right.ensures.extends c.in_ok-left.ensures.says)
    (stays_said _ _ _ _ x c.requires.equation) c.in_ok-right.ensures.says)

pub returns-clause-says : goal.returns-clause-says
returns-clause-says c =
    let x = extends_trans _ _ _ c.in_ok-left.ensures.extends c.in_ok-right.ensures.extends in
    c.in_ok-equation.ensures.says _ _
    (stays_said _ _ _ _ c.in_ok-right.ensures.extends c.in_ok-left.ensures.says)
    (stays_said _ _ _ _ x c.requires.equation) c.in_ok-right.ensures.says

pub returns-clause-grows : goal.returns-clause-grows
returns-clause-grows c = grows_trans _ _ _ c.in_ok-left.ensures.grows c.in_ok-right.ensures.grows

pub returns-clause-extends : goal.returns-clause-extends
returns-clause-extends c =
    let x = extends_trans _ _ _ c.in_ok-left.ensures.extends c.in_ok-right.ensures.extends in
    extends_trans _ _ _ x
    (c.in_ok-equation.ensures.extends _ _
    (stays_said _ _ _ _ c.in_ok-right.ensures.extends c.in_ok-left.ensures.says)
    (stays_said _ _ _ _ x c.requires.equation) c.in_ok-right.ensures.says)

pub returns-clause-said : goal.returns-clause-said
returns-clause-said c =
    let x = extends_trans _ _ _ c.in_ok-left.ensures.extends c.in_ok-right.ensures.extends in
    said_stays _ _ c.normal_form-2.new.facts
    (c.in_ok-equation.ensures.extends _ _
    (stays_said _ _ _ _ c.in_ok-right.ensures.extends c.in_ok-left.ensures.says)
    (stays_said _ _ _ _ x c.requires.equation) c.in_ok-right.ensures.says)
    c.in_ok-right.ensures.said
