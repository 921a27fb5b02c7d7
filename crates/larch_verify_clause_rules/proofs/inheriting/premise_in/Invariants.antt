use Rattle.std.proofs.Common.{◌≡◌, ◌<◌, length, map, drop, None}
use Rattle.std.specs.Prelude.{IfSome}
use Rattle.std.specs.Option.{option_map}
use Rattle.larch_verify_pool.specs.Pooled.{operator_in, tree_in, Grows}
use Rattle.larch_verify_clause_rules.specs.Inheriting.{holding_of, with_terms}
use Rattle.larch_verify_clause_rules.proofs.inheriting.premise_in.Given as goal

abbrev pub invariant-loop-i : goal.invariant-loop-i
invariant-loop-i l = record {
  grows : Grows l.fn.pool l.pool;
  within : IfSome l.premise (λ n. n < length l.pool.trees);
  left : with_terms (option_map (tree_in l.pool.trees) l.premise)
      (holding_of (operator_in l.fn.pool.operators l.predicate) l.sort
      (map (tree_in l.fn.pool.trees) (drop l.i l.terms)))
      ≡ with_terms None (holding_of (operator_in l.fn.pool.operators l.predicate) l.sort
      (map (tree_in l.fn.pool.trees) l.terms));
}
