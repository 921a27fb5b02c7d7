use Rattle.larch_prove_boxes.proofs.Wants.{not_generated, not_partitioned}
use Rattle.larch_prove_boxes.proofs.saying.first_left.Goals as goal

pub returns-in-Generated-clause-none : goal.returns-in-Generated-clause-none
returns-in-Generated-clause-none c hs e =
    not_generated c.args.hypotheses.now c.first-item.result hs _ _ c.first-item.is c.in-Generated.is e

pub returns-in-Partitioned-clause-none : goal.returns-in-Partitioned-clause-none
returns-in-Partitioned-clause-none c hs e =
    not_partitioned c.args.hypotheses.now c.first-item.result hs _ _ c.first-item.is c.in-Partitioned.is e
