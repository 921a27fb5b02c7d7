use Rattle.std.proofs.Common.{◌≡◌, map, drop}
use Rattle.larch_term.specs.declared.statement.Statement.TheVariants.{Equation}
use Rattle.larch_calculus.specs.Generation.{place_name}
use Rattle.larch_calculus.specs.Observation.{observer_term}
use Rattle.larch_verify_meaning.specs.Matching.{same_statements}
use Rattle.larch_verify_pool.specs.Pooled.{tree_in, Grows}
use Rattle.larch_verify_history.specs.Past.{equated_in}
use Rattle.larch_verify_clause_rules.specs.Observers.{observation_of}
use Rattle.larch_verify_clause_rules.proofs.partitioned.are_observed.Given as goal

abbrev pub invariant-loop-i : goal.invariant-loop-i
invariant-loop-i l = record {
  grows : Grows l.fn.pool l.pool;
  left : same_statements (map (equated_in l.fn.pool) l.hypotheses)
      (map (λ w. Equation (observer_term place_name w (tree_in l.fn.pool.trees l.sides.left))
      (observer_term place_name w (tree_in l.fn.pool.trees l.sides.right))) (map observation_of l.observers))
      ≡ same_statements (map (equated_in l.fn.pool) (drop l.i l.hypotheses))
      (map (λ w. Equation (observer_term place_name w (tree_in l.fn.pool.trees l.sides.left))
      (observer_term place_name w (tree_in l.fn.pool.trees l.sides.right)))
      (map observation_of (drop l.i l.observers)));
}
