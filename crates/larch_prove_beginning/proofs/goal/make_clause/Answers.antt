-- The goal of a clause, in its box.
use Rattle.std.proofs.Common.{◌∙◌, ap₂}
use Rattle.larch_prove_beginning.proofs.Posing.{generation_posed, partition_posed}
use Rattle.larch_prove_beginning.proofs.goal.make_clause.Goals as goal
use Rattle.larch_prove_beginning.specs.Hypotheses.{all_said}

pub returns-clause-generation : goal.returns-clause-generation
returns-clause-generation c = λ t taken s fs e may.
    generation_posed t c.args.builder.now c.begin_clause.new.builder taken s fs c.args.scope.now c.args.subgoal.now _ e
    may c.in_ok-beginning.ensures.first
    (λ u n z gs start d new over words.
    c.in_ok-beginning.ensures.generation u n z gs start d new over words)
    (c.in_ok-hypotheses.ensures ∙ ap₂ all_said c.as_slice.ensures c.as_slice-2.ensures)
    (c.in_ok-constants.ensures ∙ c.as_slice-3.ensures) c.in_ok-scope.ensures

pub returns-clause-partition : goal.returns-clause-partition
returns-clause-partition c = λ t taken s os e may.
    partition_posed t c.args.builder.now c.begin_clause.new.builder taken s os c.args.scope.now c.args.subgoal.now _ e
    may c.in_ok-beginning.ensures.first
    (λ u n p z gs start d differ new over words.
    c.in_ok-beginning.ensures.partition u n p z gs start d differ new over words)
    (c.in_ok-hypotheses.ensures ∙ ap₂ all_said c.as_slice.ensures c.as_slice-2.ensures)
    (c.in_ok-constants.ensures ∙ c.as_slice-3.ensures) c.in_ok-scope.ensures
