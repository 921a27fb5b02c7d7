use Rattle.std.proofs.Common.{◌≡◌, map, drop}
use Rattle.larch_calculus.specs.Generation.{generation_hypotheses}
use Rattle.larch_verify_meaning.specs.Matching.{same_statements}
use Rattle.larch_verify_pool.specs.Pooled.{operator_in, Grows, HasTree}
use Rattle.larch_verify_history.specs.Past.{equated_in}
use Rattle.larch_term.specs.Truth.{truth}
use Rattle.larch_verify_clause_rules.specs.Operators.{operators_in}
use Rattle.larch_verify_clause_rules.proofs.inheriting.supposes_inheritance.Given as goal

abbrev pub invariant-loop-i : goal.invariant-loop-i
invariant-loop-i l = record {
  grows : Grows l.fn.pool l.pool;
  truth : HasTree l.pool l.truth truth;
  left : same_statements (map (equated_in l.fn.pool) l.hypotheses)
      (generation_hypotheses (operator_in l.fn.pool.operators l.predicate) l.sort (operators_in l.generators))
      ≡ same_statements (map (equated_in l.fn.pool) (drop l.i l.hypotheses))
      (generation_hypotheses (operator_in l.fn.pool.operators l.predicate) l.sort
      (operators_in (drop l.i l.generators)));
}
