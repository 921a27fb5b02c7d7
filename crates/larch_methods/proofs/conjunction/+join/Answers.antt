use Rattle.std.specs.Prelude.{refl}
use Rattle.larch_derive.proofs.Growth.{extends_trans}
use Rattle.larch_methods.proofs.Joining.{both_joined, by_arguments, first_joined}
use Rattle.larch_methods.proofs.conjunction.+join.Goals as goal

pub join_both-returns-in_err-first-clause-extends : goal.join_both-returns-in_err-first-clause-extends
join_both-returns-in_err-first-clause-extends t c those behind e h =
    by_arguments _ _ _ _ _ _ those behind _ e c.in_ok-two.ensures.has h
    (λ ms ks p q r. c.in_err-first.ensures.extends ms _ p)

pub join_both-returns-in_err-second-clause-extends : goal.join_both-returns-in_err-second-clause-extends
join_both-returns-in_err-second-clause-extends t c those behind e h =
    first_joined _ _ _ _ _ _ _ _ those behind _ e c.in_ok-two.ensures.has h
    (λ ms ks k. c.in_ok-first.ensures.behind ms ks k) (λ ms ks k. c.in_ok-first.ensures.extends ms ks k)
    (λ x ks n. extends_trans _ _ _ x (c.in_err-second.ensures.extends ks behind n))

pub join_both-returns-in_err-line-clause-extends : goal.join_both-returns-in_err-line-clause-extends
join_both-returns-in_err-line-clause-extends t c those behind e h =
    both_joined _ _ _ _ _ _ _ _ _ _ those behind _ _ _ e c.in_ok-two.ensures.has h
    (λ ms ks k. c.in_ok-first.ensures.says ms ks k) (λ ms ks k. c.in_ok-first.ensures.behind ms ks k)
    (λ ms ks k. c.in_ok-first.ensures.extends ms ks k) (λ ms ks k. c.in_ok-second.ensures.says ms ks k)
    (λ ms ks k. c.in_ok-second.ensures.behind ms ks k) (λ ms ks k. c.in_ok-second.ensures.extends ms ks k)
    (λ x q i k l m. extends_trans _ _ _ x (c.in_err-line.ensures.extends _ _ i refl k l m))

pub join_both-returns-clause-says : goal.join_both-returns-clause-says
join_both-returns-clause-says t c those behind e h =
    both_joined _ _ _ _ _ _ _ _ _ _ those behind _ _ _ e c.in_ok-two.ensures.has h
    (λ ms ks k. c.in_ok-first.ensures.says ms ks k) (λ ms ks k. c.in_ok-first.ensures.behind ms ks k)
    (λ ms ks k. c.in_ok-first.ensures.extends ms ks k) (λ ms ks k. c.in_ok-second.ensures.says ms ks k)
    (λ ms ks k. c.in_ok-second.ensures.behind ms ks k) (λ ms ks k. c.in_ok-second.ensures.extends ms ks k)
    (λ x q i k l m. c.in_ok-line.ensures.says _ _ i refl k l m)

pub join_both-returns-clause-behind : goal.join_both-returns-clause-behind
join_both-returns-clause-behind t c those behind e h =
    both_joined _ _ _ _ _ _ _ _ _ _ those behind _ _ _ e c.in_ok-two.ensures.has h
    (λ ms ks k. c.in_ok-first.ensures.says ms ks k) (λ ms ks k. c.in_ok-first.ensures.behind ms ks k)
    (λ ms ks k. c.in_ok-first.ensures.extends ms ks k) (λ ms ks k. c.in_ok-second.ensures.says ms ks k)
    (λ ms ks k. c.in_ok-second.ensures.behind ms ks k) (λ ms ks k. c.in_ok-second.ensures.extends ms ks k)
    (λ x q i k l m. q)

pub join_both-returns-clause-extends : goal.join_both-returns-clause-extends
join_both-returns-clause-extends t c those behind e h =
    both_joined _ _ _ _ _ _ _ _ _ _ those behind _ _ _ e c.in_ok-two.ensures.has h
    (λ ms ks k. c.in_ok-first.ensures.says ms ks k) (λ ms ks k. c.in_ok-first.ensures.behind ms ks k)
    (λ ms ks k. c.in_ok-first.ensures.extends ms ks k) (λ ms ks k. c.in_ok-second.ensures.says ms ks k)
    (λ ms ks k. c.in_ok-second.ensures.behind ms ks k) (λ ms ks k. c.in_ok-second.ensures.extends ms ks k)
    (λ x q i k l m. extends_trans _ _ _ x (c.in_ok-line.ensures.extends _ _ i refl k l m))
