use Rattle.larch_derive.proofs.Growth.{extends_same, extends_trans}
use Rattle.larch_methods.proofs.Observing.{partitioned_by}
use Rattle.larch_methods.proofs.partition.finish_partition.Goals as goal

pub returns-in_err-lines-clause-extends : goal.returns-in_err-lines-clause-extends
returns-in_err-lines-clause-extends c h =
    c.in_err-lines.ensures.extends _ _ _ c.in_ok-letters.ensures.left c.in_ok-letters.ensures.right h.shown_by

pub returns-in_err-stated-clause-extends : goal.returns-in_err-stated-clause-extends
returns-in_err-stated-clause-extends c h =
    extends_trans _ _ _
    (c.in_ok-lines.ensures.extends _ _ _ c.in_ok-letters.ensures.left c.in_ok-letters.ensures.right h.shown_by)
    (extends_same _ _ c.in_err-stated.ensures.err)

pub returns-in_err-line-clause-extends : goal.returns-in_err-line-clause-extends
returns-in_err-line-clause-extends c h =
    partitioned_by _ _ _ _ _ _ _ _ _ _ _ h c.in_ok-letters.ensures.left c.in_ok-letters.ensures.right
    (λ u v ws p q z. c.in_ok-lines.ensures.shows u v ws p q z)
    (λ u v ws p q z. c.in_ok-lines.ensures.extends u v ws p q z)
    (λ s st i. c.in_ok-stated.ensures.says s st i.found i.over) (λ s st i. c.in_ok-stated.ensures.extends s st i.found)
    (λ x os s z k m. extends_trans _ _ _ x (extends_same _ _ c.in_err-line.ensures.err))

pub returns-clause-says : goal.returns-clause-says
returns-clause-says c h =
    partitioned_by _ _ _ _ _ _ _ _ _ _ _ h c.in_ok-letters.ensures.left c.in_ok-letters.ensures.right
    (λ u v ws p q z. c.in_ok-lines.ensures.shows u v ws p q z)
    (λ u v ws p q z. c.in_ok-lines.ensures.extends u v ws p q z)
    (λ s st i. c.in_ok-stated.ensures.says s st i.found i.over) (λ s st i. c.in_ok-stated.ensures.extends s st i.found)
    (λ x os s z k m. c.in_ok-line.ensures.says os s z k m h.sorts)

pub returns-clause-extends : goal.returns-clause-extends
returns-clause-extends c h =
    partitioned_by _ _ _ _ _ _ _ _ _ _ _ h c.in_ok-letters.ensures.left c.in_ok-letters.ensures.right
    (λ u v ws p q z. c.in_ok-lines.ensures.shows u v ws p q z)
    (λ u v ws p q z. c.in_ok-lines.ensures.extends u v ws p q z)
    (λ s st i. c.in_ok-stated.ensures.says s st i.found i.over) (λ s st i. c.in_ok-stated.ensures.extends s st i.found)
    (λ x os s z k m. extends_trans _ _ _ x (c.in_ok-line.ensures.extends os s z k m h.sorts))
