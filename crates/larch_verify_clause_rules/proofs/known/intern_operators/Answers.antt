use Rattle.std.proofs.Common.{◌≡◌, [], ◌∷◌, ◌++◌, Some, sym, ◌∙◌, ap, arith}
use Rattle.std.proofs.lemmas.Grind.{common_steps}
use Rattle.larch_verify_pool.proofs.Front.{grows_trans}
use Rattle.larch_verify_clause_rules.proofs.Finding.{known_pushed, operators_pushed}
use Rattle.larch_verify_clause_rules.proofs.known.intern_operators.Goals as goal

pub loop-operator-preserved : goal.loop-operator-preserved
loop-operator-preserved c =
    let p : c.push.new.self.items ≡ c.loop-operator.known.items
    ++ record { operator = c.in_ok-operator.operator; number = c.in_ok-number.number } ∷ [] =
    grind (arith, common_steps) in
    record {
      grows =
          grows_trans c.args.pool.now c.loop-operator.pool c.intern_operator.new.pool c.loop-operator.invariant.grows
          c.in_ok-number.ensures.grows;
      known =
          known_pushed c.loop-operator.pool c.intern_operator.new.pool c.loop-operator.known.items c.push.new.self.items
          (record { operator = c.in_ok-operator.operator; number = c.in_ok-number.number })
          c.in_ok-number.ensures.grows c.loop-operator.invariant.known
          (c.in_ok-number.ensures.number ∙ ap Some (sym c.in_ok-operator.ensures)) p;
      says =
          operators_pushed c.args.operators.now c.loop-operator.operator-index c.loop-operator.known.items
          c.push.new.self.items (record { operator = c.in_ok-operator.operator; number = c.in_ok-number.number })
          c.operator-item.result c.loop-operator-test.true c.loop-operator.invariant.says c.in_ok-operator.ensures
          c.operator-item.is p;
    }
