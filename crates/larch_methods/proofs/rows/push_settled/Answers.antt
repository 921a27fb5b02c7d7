use Rattle.larch_derive.proofs.Growth.{extends_same, extends_trans}
use Rattle.larch_methods.proofs.Settled.{settled_begun, settled_changed, settles}
use Rattle.larch_methods.proofs.rows.push_settled.Goals as goal

pub returns-in_err-changed-clause-extends : goal.returns-in_err-changed-clause-extends
returns-in_err-changed-clause-extends c v h =
    settled_begun _ _ _ _ _ _ _ v _ _ h (λ k. c.in_ok-same.ensures.says k) (λ k. c.in_ok-same.ensures.extends k)
    (λ x p q. extends_trans _ _ _ x
    (c.in_err-changed.ensures.extends _ h.argument h.now h.operator h.before h.behind h.number_is p q))

pub returns-in_err-settled-clause-extends : goal.returns-in_err-settled-clause-extends
returns-in_err-settled-clause-extends c v h =
    settled_changed _ _ _ _ _ _ _ _ v _ _ h (λ k. c.in_ok-same.ensures.says k) (λ k. c.in_ok-same.ensures.extends k)
    (λ s t u f ds rs e p q. c.in_ok-changed.ensures.extends s t u f ds rs e p q)
    (λ x k. extends_trans _ _ _ x (c.in_err-settled.ensures.extends h.left h.right h.row_is k))

pub returns-in_err-number-clause-extends : goal.returns-in_err-number-clause-extends
returns-in_err-number-clause-extends c v h =
    settles _ _ _ _ _ _ _ _ _ v _ _ _ _ h (λ k. c.in_ok-same.ensures.says k) (λ k. c.in_ok-same.ensures.extends k)
    (λ s t u f ds rs e p q. c.in_ok-changed.ensures.says s t u f ds rs e p q)
    (λ s t u f ds rs e p q. c.in_ok-changed.ensures.extends s t u f ds rs e p q)
    (λ l r e k. c.in_ok-settled.ensures.says l r e k) (λ l r e k. c.in_ok-settled.ensures.extends l r e k)
    (λ x u p q. extends_trans _ _ _ x (extends_same _ _ c.in_err-number.ensures.err))

pub returns-clause-says : goal.returns-clause-says
returns-clause-says c v h =
    settles _ _ _ _ _ _ _ _ _ v _ _ _ _ h (λ k. c.in_ok-same.ensures.says k) (λ k. c.in_ok-same.ensures.extends k)
    (λ s t u f ds rs e p q. c.in_ok-changed.ensures.says s t u f ds rs e p q)
    (λ s t u f ds rs e p q. c.in_ok-changed.ensures.extends s t u f ds rs e p q)
    (λ l r e k. c.in_ok-settled.ensures.says l r e k) (λ l r e k. c.in_ok-settled.ensures.extends l r e k)
    (λ x u p q. c.in_ok-number.ensures.says _ u v p q)

pub returns-clause-extends : goal.returns-clause-extends
returns-clause-extends c v h =
    settles _ _ _ _ _ _ _ _ _ v _ _ _ _ h (λ k. c.in_ok-same.ensures.says k) (λ k. c.in_ok-same.ensures.extends k)
    (λ s t u f ds rs e p q. c.in_ok-changed.ensures.says s t u f ds rs e p q)
    (λ s t u f ds rs e p q. c.in_ok-changed.ensures.extends s t u f ds rs e p q)
    (λ l r e k. c.in_ok-settled.ensures.says l r e k) (λ l r e k. c.in_ok-settled.ensures.extends l r e k)
    (λ x u p q. extends_trans _ _ _ x (c.in_ok-number.ensures.extends _ u v p q))
