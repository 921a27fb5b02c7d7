use Rattle.std.specs.Prelude.{refl}
use Rattle.larch_prove_boxes.proofs.Begun.{generation_begun, partition_begun, written_so}
use Rattle.larch_prove_boxes.proofs.beginning.begin_clause.Goals as goal

pub returns-clause-generation : goal.returns-clause-generation
returns-clause-generation c t n z fs start e new over words =
    generation_begun t _ _ _ _ c.args.subgoal.now _ c.in_ok-opened.opened n z fs
    (written_so _ _ _ _ c.args.subgoal.now _ c.in_ok-opened.opened c.args.subgoal.now.hypotheses
    c.in_ok-opened.ensures.opens
    c.in_ok-opened.ensures.constants refl c.in_ok-first.ensures c.in_ok-way.ensures.says c.in_ok-way.ensures.extends
    refl c.in_ok-hypotheses.ensures.says c.in_ok-hypotheses.ensures.extends) start e new over words

pub returns-clause-partition : goal.returns-clause-partition
returns-clause-partition c t n p z os start e differ new over words =
    partition_begun t _ _ _ _ c.args.subgoal.now _ c.in_ok-opened.opened n p z os
    (written_so _ _ _ _ c.args.subgoal.now _ c.in_ok-opened.opened c.args.subgoal.now.hypotheses
    c.in_ok-opened.ensures.opens
    c.in_ok-opened.ensures.constants refl c.in_ok-first.ensures c.in_ok-way.ensures.says c.in_ok-way.ensures.extends
    refl c.in_ok-hypotheses.ensures.says c.in_ok-hypotheses.ensures.extends) start e differ new over
    words
