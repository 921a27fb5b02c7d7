use Rattle.std.proofs.Common.{◌≡◌, ◌<◌, ◌+◌, ◌++◌, All, length, map, drop}
use Rattle.larch_calculus.specs.Generation.{place_name}
use Rattle.larch_verify_pool.specs.Pooled.{tree_in, Grows}
use Rattle.larch_verify_clause_rules.specs.Naming.{variables_named, variable_term}
use Rattle.larch_verify_clause_rules.proofs.variables.place_variables.Given as goal

abbrev pub invariant-loop-i : goal.invariant-loop-i
invariant-loop-i l = record {
  grows : Grows l.fn.pool l.pool;
  within : All (λ n. n < length l.pool.trees) l.variables.items;
  trees : map (tree_in l.pool.trees) l.variables.items
      ++ map variable_term (variables_named place_name (l.i + 1) (drop l.i l.sorts))
      ≡ map variable_term (variables_named place_name 1 l.sorts);
}
