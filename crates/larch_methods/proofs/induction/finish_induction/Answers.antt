use Rattle.larch_term.specs.Truth.{truth}
use Rattle.larch_derive.proofs.Growth.{extends_same, extends_trans, known_stands}
use Rattle.larch_methods.proofs.Inductions.{induced}
use Rattle.larch_methods.proofs.Sharing.{said_right}
use Rattle.larch_methods.proofs.induction.finish_induction.Goals as goal

pub returns-in_err-line-clause-extends : goal.returns-in_err-line-clause-extends
returns-in_err-line-clause-extends c h =
    extends_trans _ _ _ (c.in_ok-stated.ensures.extends _ (known_stands _ _ h.formula.known) h.stated.found)
    (extends_same _ _ c.in_err-line.ensures.err)

pub returns-clause-says : goal.returns-clause-says
returns-clause-says c h =
    said_right _ _ _ _ truth c.in_ok-truth.ensures
    (induced _ _ _ _ _ _ _ _ _ _ h c.in_ok-variable.ensures c.in_ok-truth.ensures
    (λ fs st s. c.in_ok-stated.ensures.extends _ st s.found)
    (λ fs st s. c.in_ok-stated.ensures.says _ st s.found s.over)
    (λ x fs s cs k t e n. c.in_ok-line.ensures.says fs s cs k t e n))

pub returns-clause-extends : goal.returns-clause-extends
returns-clause-extends c h =
    induced _ _ _ _ _ _ _ _ _ _ h c.in_ok-variable.ensures c.in_ok-truth.ensures
    (λ fs st s. c.in_ok-stated.ensures.extends _ st s.found)
    (λ fs st s. c.in_ok-stated.ensures.says _ st s.found s.over)
    (λ x fs s cs k t e n. extends_trans _ _ _ x (c.in_ok-line.ensures.extends fs s cs k t e n))
