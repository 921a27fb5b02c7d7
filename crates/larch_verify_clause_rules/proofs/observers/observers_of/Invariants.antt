use Rattle.std.proofs.Common.{◌≡◌, ◌++◌, All, map, drop}
use Rattle.larch_calculus.specs.Observation.{observations_of}
use Rattle.larch_verify_pool.specs.Pooled.{Pooled}
use Rattle.larch_verify_clause_rules.specs.Observers.{observation_of, IsObserver}
use Rattle.larch_verify_clause_rules.specs.Operators.{IsKnown, operators_in}
use Rattle.larch_verify_clause_rules.proofs.observers.observers_of.Given as goal

abbrev pub invariant-loop-known : goal.invariant-loop-known
invariant-loop-known l = record {
  says : map observation_of l.observers.items ++ observations_of l.sort (operators_in (drop l.known-index l.operators))
      ≡ observations_of l.sort (operators_in l.operators);
  known : (p : Pooled) → All (IsKnown p) l.operators → All (IsObserver p) l.observers.items;
}
