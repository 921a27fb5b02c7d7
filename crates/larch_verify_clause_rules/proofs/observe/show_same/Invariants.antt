use Rattle.std.proofs.Common.{◌≡◌, ◌&&◌, map, drop}
use Rattle.larch_verify_meaning.specs.ClauseRules.{show_same}
use Rattle.larch_verify_pool.specs.Pooled.{tree_in, Grows}
use Rattle.larch_verify_pool.specs.Substitution.{AreVariables}
use Rattle.larch_verify_history.specs.Past.{history_of}
use Rattle.larch_verify_clause_rules.specs.Observers.{observation_of, unbound, variables_in}
use Rattle.larch_verify_clause_rules.proofs.observe.show_same.Given as goal

abbrev pub invariant-loop-i : goal.invariant-loop-i
invariant-loop-i l = record {
  grows : Grows l.fn.pool l.pool;
  others : AreVariables l.pool.trees l.others.items;
  left : show_same (history_of l.fn.pool l.past) (tree_in l.fn.pool.trees l.sides.left)
      (tree_in l.fn.pool.trees l.sides.right) (map observation_of l.observers) l.lines
      ≡ (unbound (tree_in l.fn.pool.trees l.sides.left) (tree_in l.fn.pool.trees l.sides.right)
      (variables_in l.pool.trees l.others.items)
      && show_same (history_of l.fn.pool l.past) (tree_in l.fn.pool.trees l.sides.left)
      (tree_in l.fn.pool.trees l.sides.right) (map observation_of (drop l.i l.observers)) (drop l.i l.lines));
}
