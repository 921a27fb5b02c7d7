use Rattle.std.proofs.Common.{map, sym, subst}
use Rattle.larch_calculus.specs.Observation.{observations_of}
use Rattle.larch_verify_clause_rules.specs.Observers.{observation_of}
use Rattle.larch_verify_clause_rules.specs.Operators.{IsKnown, operators_in}
use Rattle.larch_verify_clause_rules.proofs.Observing.{observers_more}
use Rattle.larch_verify_clause_rules.proofs.observers.observers_of.Goals as goal

pub loop-known-preserved : goal.loop-known-preserved
loop-known-preserved c = record {
  says =
      observers_more c.args.sort.now c.args.operators.now c.loop-known.known-index c.known-item.result
      (map observation_of c.loop-known.observers.items)
      (map observation_of c.push_observers.new.observers.items)
      (observations_of c.args.sort.now (operators_in c.args.operators.now)) c.loop-known-test.true c.known-item.is
      c.in_ok-push_observers.ensures.says c.loop-known.invariant.says;
  known =
      λ p a. c.in_ok-push_observers.ensures.known p
      (subst (IsKnown p) (sym c.known-item.is) (a c.loop-known.known-index c.known-item.result c.loop-known-test.true))
      (c.loop-known.invariant.known p a);
}
