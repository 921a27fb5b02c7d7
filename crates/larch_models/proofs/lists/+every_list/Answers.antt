use Rattle.std.proofs.Common.{◌≡◌, ◌++◌, ◌∷◌, [], length, length-append, sym, ◌∙◌, ap, arith}
use Rattle.larch_models.specs.Every.{all_lists}
use Rattle.larch_models.proofs.Every.{lists_behind, popped, up_to_fails, up_to_goes_on}
use Rattle.larch_models.proofs.lists.+every_list.Goals as goal

pub every_value-returns-then-not-holds-clause-answer : goal.every_value-returns-then-not-holds-clause-answer
every_value-returns-then-not-holds-clause-answer g t c =
    let p = g.P.Property.so c.args.property.now in
    let us = c.args.values.now.items in
    let v = c.tries.value in
    let tried : c.push.new.self.items ≡ us ++ v ∷ [] =
    c.in_ok-push.ensures.items ∙ ap (λ ws. ws ++ v ∷ []) c.tries.invariant.kept in
    up_to_fails v (λ v. all_lists c.args.further.now (λ vs. p (us ++ v ∷ vs)))
    (sym (lists_behind c.args.further.now us v p)
    ∙ sym (ap (λ ws. all_lists c.args.further.now (λ vs. p (ws ++ vs))) tried)
    ∙ sym c.in_ok-holds.ensures.answer ∙ c.if-not-holds.true)
    ∙ c.tries.invariant.same

pub every_value-tries-preserved : goal.every_value-tries-preserved
every_value-tries-preserved g t c =
    let p = g.P.Property.so c.args.property.now in
    let us = c.args.values.now.items in
    let v = c.tries.value in
    let tried : c.push.new.self.items ≡ us ++ v ∷ [] =
    c.in_ok-push.ensures.items ∙ ap (λ ws. ws ++ v ∷ []) c.tries.invariant.kept in
    let whole : c.every_list.new.values.items ≡ us ++ v ∷ [] = c.in_ok-holds.ensures.kept ∙ tried in
    let ok = c.every_list.new.values.ok in
    record {
      same =
          up_to_goes_on v (λ v. all_lists c.args.further.now (λ vs. p (us ++ v ∷ vs))) c.if-value-eq0.false
          (sym (lists_behind c.args.further.now us v p)
          ∙ sym (ap (λ ws. all_lists c.args.further.now (λ vs. p (ws ++ vs))) tried)
          ∙ sym c.in_ok-holds.ensures.answer ∙ c.if-not-holds.false)
          ∙ c.tries.invariant.same;
      kept = popped us c.pop.new.self.items v c.pop.result (sym whole ∙ c.pop.ensures.items)
          (c.pop.ensures.variant.1 (omega (arith, ap length whole, length-append us (v ∷ []), ok)));
    }
