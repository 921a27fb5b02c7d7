use Rattle.std.proofs.Common.{◌≡◌, ◌+◌, ◌++◌, All, map, drop}
use Rattle.larch_calculus.specs.Observation.{places_of_sort}
use Rattle.larch_verify_pool.specs.Pooled.{Pooled}
use Rattle.larch_verify_clause_rules.specs.Observers.{observation_of, IsObserver}
use Rattle.larch_verify_clause_rules.specs.Operators.{IsKnown}
use Rattle.larch_verify_clause_rules.proofs.observers.push_observers.Given as goal

abbrev pub invariant-loop-index : goal.invariant-loop-index
invariant-loop-index l = record {
  says : map observation_of l.observers.items
      ++ map (λ k. record { observer = l.known.operator; place = k })
      (places_of_sort l.sort (l.index + 1) (drop l.index l.known.operator.domain))
      ≡ map observation_of l.fn.observers.items
      ++ map (λ k. record { observer = l.known.operator; place = k }) (places_of_sort l.sort 1 l.known.operator.domain);
  known : (p : Pooled) → IsKnown p l.known → All (IsObserver p) l.fn.observers.items
      → All (IsObserver p) l.observers.items;
}
