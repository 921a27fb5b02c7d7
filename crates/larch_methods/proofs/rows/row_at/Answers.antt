use Rattle.larch_derive.proofs.Growth.{extends_same, extends_trans, known_stands}
use Rattle.larch_methods.proofs.Settled.{formula_stays, row_extends, row_said}
use Rattle.larch_methods.proofs.rows.row_at.Goals as goal

pub returns-in_err-line-clause-extends : goal.returns-in_err-line-clause-extends
returns-in_err-line-clause-extends c l r e k =
    extends_trans _ _ _ (c.in_ok-stated.ensures.extends _ (known_stands _ _ k.known) e tt)
    (extends_same _ _ c.in_err-line.ensures.err)

pub returns-clause-says : goal.returns-clause-says
returns-clause-says c l r e k =
    let st = known_stands _ _ k.known in
    row_said _ _ _ _ _ _ l r c.in_ok-by.ensures (formula_stays _ _ _ (c.in_ok-stated.ensures.extends _ st e tt) k)
    (c.in_ok-stated.ensures.says _ st e tt) (λ u v h j d. c.in_ok-line.ensures.says u v h j d)

pub returns-clause-extends : goal.returns-clause-extends
returns-clause-extends c l r e k =
    let st = known_stands _ _ k.known in
    extends_trans _ _ _ (c.in_ok-stated.ensures.extends _ st e tt)
    (row_extends _ _ _ _ _ l r c.in_ok-by.ensures (formula_stays _ _ _ (c.in_ok-stated.ensures.extends _ st e tt) k)
    (c.in_ok-stated.ensures.says _ st e tt) (λ u v h j d. c.in_ok-line.ensures.extends u v h j d))
