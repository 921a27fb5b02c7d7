use Rattle.std.proofs.Common.{◌≡◌, suc, ◌+◌, true, [], ◌∷◌, ◌++◌, get_or, map, length, bytes_eq, sym, ◌∙◌, ap, subst}
use Rattle.std.proofs.Common.{arith, ◌<◌}
use Rattle.std.proofs.lemmas.Grind.{common_steps}
use Rattle.std.proofs.lemmas.List.{get_or_default}
use Rattle.larch_calculus.specs.Observation.{places_of_sort}
use Rattle.larch_verify_clause_rules.specs.Observers.{observation_of}
use Rattle.larch_verify_clause_rules.specs.declared.observers.Observer.{Observer}
use Rattle.larch_verify_clause_rules.proofs.Observing.{with_place, place_yes, observer_pushed}
use Rattle.larch_verify_clause_rules.proofs.Paired.{not_false}
use Rattle.larch_verify_clause_rules.proofs.observers.push_observers.Goals as goal

pub loop-index-preserved : goal.loop-index-preserved
loop-index-preserved c =
    let o : Observer =
    record { operator = c.in_ok-operator.operator; number = c.args.known.now.number; index = c.loop-index.index } in
    let p : c.push.new.self.items ≡ c.loop-index.observers.items ++ o ∷ [] = grind (arith, common_steps) in
    let lt : c.loop-index.index < length c.args.known.now.operator.domain =
    subst (λ ds. c.loop-index.index < length ds) c.domain-domain.ensures c.loop-index-test.true in
    let d : c.index-domain-index.result ≡ get_or c.args.known.now.operator.domain c.loop-index.index [] =
    c.index-domain-index.is ∙ ap (λ ds. get_or ds c.loop-index.index c.index-domain-index.result)
    c.domain-domain.ensures
    ∙ get_or_default c.args.known.now.operator.domain c.loop-index.index c.index-domain-index.result [] lt in
    let y : bytes_eq c.index-domain-index.result c.args.sort.now ≡ true =
    not_false (bytes_eq c.index-domain-index.result c.args.sort.now) (sym c.ne.ensures ∙ c.if-ne.false) in
    let e : suc c.loop-index.index ≡ c.loop-index.index + 1 = omega arith in
    record {
      says = place_yes c.args.sort.now c.args.known.now.operator.domain c.loop-index.index c.args.known.now.operator
          (map observation_of c.args.observers.now.items
          ++ map (with_place c.args.known.now.operator)
          (places_of_sort c.args.sort.now 1 c.args.known.now.operator.domain))
          c.loop-index.observers.items o c.push.new.self.items lt (ap (λ s. bytes_eq s c.args.sort.now) (sym d) ∙ y)
          (λ i. record { observer = c.in_ok-operator.ensures i; place = e i }) p c.loop-index.invariant.says;
      known =
          λ q k a. observer_pushed q c.loop-index.observers.items c.push.new.self.items c.args.known.now.operator o k
          c.in_ok-operator.ensures lt (c.loop-index.invariant.known q k a) p;
    }
