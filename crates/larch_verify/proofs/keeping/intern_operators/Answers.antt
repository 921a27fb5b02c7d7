use Rattle.std.proofs.Common.{◌≡◌, ◌+◌, ◌++◌, ◌∷◌, [], take, map, Some, slice_get, sym, ◌∙◌, ap, arith}
use Rattle.std.proofs.lemmas.Grind.{common_steps}
use Rattle.std.proofs.lemmas.List.{take_more}
use Rattle.larch_verify_pool.proofs.Front.{grows_trans}
use Rattle.larch_verify.proofs.Kept.{operators_more}
use Rattle.larch_verify.proofs.keeping.intern_operators.Goals as goal

pub loop-operator-preserved : goal.loop-operator-preserved
loop-operator-preserved c =
    let p : c.push.new.self.items ≡ c.loop-operator.numbers.items ++ c.in_ok-number.number ∷ [] =
    grind (arith, common_steps) in
    let m : take (c.loop-operator.operator-index + 1) c.args.operators.now
    ≡ take c.loop-operator.operator-index c.args.operators.now ++ c.operator-item.result ∷ [] =
    take_more c.args.operators.now c.loop-operator.operator-index c.operator-item.result c.loop-operator-test.true
    ∙ ap (λ y. take c.loop-operator.operator-index c.args.operators.now ++ y ∷ []) (sym c.operator-item.is) in
    record {
      grows =
          grows_trans c.args.pool.now c.loop-operator.pool c.intern_operator.new.pool c.loop-operator.invariant.grows
          c.in_ok-number.ensures.grows;
      numbers = ap (map (slice_get c.intern_operator.new.pool.operators)) p
          ∙ operators_more c.loop-operator.pool.operators c.intern_operator.new.pool.operators
          c.loop-operator.numbers.items
          (take c.loop-operator.operator-index c.args.operators.now) c.in_ok-number.number c.operator-item.result
          c.in_ok-number.ensures.grows.0 c.loop-operator.invariant.numbers c.in_ok-number.ensures.number
          ∙ sym (ap (map Some) m);
    }
