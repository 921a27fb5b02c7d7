use Rattle.std.proofs.Common.{◌≡◌, ℕ, ◌<◌, ◌-◌, [], ◌∷◌, ◌++◌, length, map, get_or, Some, None, refl, sym, ◌∙◌, ap}
use Rattle.std.proofs.Common.{arith}
use Rattle.std.specs.Prelude.{reverse}
use Rattle.std.proofs.lemmas.Grind.{common_steps}
use Rattle.larch_verify_meaning.specs.Context.{find_symbol}
use Rattle.larch_verify_pool.specs.Pooled.{tree_in}
use Rattle.larch_verify_pool.proofs.Front.{grows_trans}
use Rattle.larch_verify_history.specs.Past.{history_of}
use Rattle.larch_verify_history.proofs.Staying.{history_same, past_stays}
use Rattle.larch_verify_decoding.specs.Postorder.{postorder, values_after}
use Rattle.larch_verify_decoding.proofs.Orders.{last_value, no_value, read_more, read_none}
use Rattle.larch_verify_decoding.proofs.Steps.{popped_first}
use Rattle.larch_verify_decoding.proofs.decoding.decode.Goals as goal

pub returns-clause-says : goal.returns-clause-says
returns-clause-says c =
    let e : c.loop-next.order.items ≡ [] = grind (arith, common_steps) in
    let v : (d : ℕ) → 0 < length c.loop-next.values.items
    → c.pop-2.result ≡ Some (get_or c.loop-next.values.items (length c.loop-next.values.items - 1) d) =
    λ d l. grind (arith, common_steps) in
    last_value (find_symbol c.args.context.now.theory.now (history_of c.args.pool.now c.args.context.now.past.now))
    c.args.term.now (tree_in c.loop-next.pool.trees) c.loop-next.values.items c.pop-2.result
    (sym
    (ap
    (λ os. values_after (find_symbol c.args.context.now.theory.now
    (history_of c.args.pool.now c.args.context.now.past.now)) (map (λ t. t.now) (reverse os))
    (map (tree_in c.loop-next.pool.trees) c.loop-next.values.items)) e)
    ∙ c.loop-next.invariant.value) v

pub decode_next-requires-clause-past : goal.decode_next-requires-clause-past
decode_next-requires-clause-past c =
    past_stays c.args.context.now.theory.now c.args.pool.now c.loop-next.pool c.args.context.now.past.now c.requires
    c.loop-next.invariant.grows

pub returns-then-not-goes_on-clause-says : goal.returns-then-not-goes_on-clause-says
returns-then-not-goes_on-clause-says c =
    let w : c.loop-next.order.items ≡ c.pop.new.self.items ++ c.in-Some.next ∷ [] = grind (arith, common_steps) in
    no_value (find_symbol c.args.context.now.theory.now (history_of c.args.pool.now c.args.context.now.past.now))
    c.args.term.now
    (read_none (find_symbol c.args.context.now.theory.now (history_of c.args.pool.now c.args.context.now.past.now))
    (find_symbol c.args.context.now.theory.now (history_of c.loop-next.pool c.args.context.now.past.now))
    c.in_ok-goes_on.goes_on (values_after
    (find_symbol c.args.context.now.theory.now (history_of c.args.pool.now c.args.context.now.past.now))
    (postorder c.args.term.now) [])
    c.in-Some.next.now (map (λ t. t.now) (reverse c.loop-next.order.items))
    (map (λ t. t.now) (reverse c.pop.new.self.items))
    (map (tree_in c.loop-next.pool.trees) c.loop-next.values.items)
    (map (tree_in c.decode_next.new.pool.trees) c.decode_next.new.values.items)
    (ap (find_symbol c.args.context.now.theory.now)
    (history_same c.args.context.now.theory.now c.args.pool.now c.loop-next.pool c.args.context.now.past.now
    c.requires c.loop-next.invariant.grows))
    (popped_first c.loop-next.order.items c.pop.new.self.items c.in-Some.next (λ t. t.now) w)
    c.if-not-goes_on.true (c.in_ok-goes_on.ensures.values (map (λ t. t.now) (reverse c.pop.new.self.items)))
    c.loop-next.invariant.value)

pub loop-next-preserved : goal.loop-next-preserved
loop-next-preserved c =
    let w : c.loop-next.order.items ≡ c.pop.new.self.items ++ c.in-Some.next ∷ [] = grind (arith, common_steps) in
    record {
      grows =
          grows_trans c.args.pool.now c.loop-next.pool c.decode_next.new.pool c.loop-next.invariant.grows
          c.in_ok-goes_on.ensures.grows;
      within = c.in_ok-goes_on.ensures.within;
      value =
          read_more (find_symbol c.args.context.now.theory.now (history_of c.args.pool.now c.args.context.now.past.now))
          (find_symbol c.args.context.now.theory.now (history_of c.loop-next.pool c.args.context.now.past.now))
          c.in_ok-goes_on.goes_on (values_after
          (find_symbol c.args.context.now.theory.now (history_of c.args.pool.now c.args.context.now.past.now))
          (postorder c.args.term.now) [])
          c.in-Some.next.now (map (λ t. t.now) (reverse c.loop-next.order.items))
          (map (λ t. t.now) (reverse c.pop.new.self.items))
          (map (tree_in c.loop-next.pool.trees) c.loop-next.values.items)
          (map (tree_in c.decode_next.new.pool.trees) c.decode_next.new.values.items)
          (ap (find_symbol c.args.context.now.theory.now)
          (history_same c.args.context.now.theory.now c.args.pool.now c.loop-next.pool c.args.context.now.past.now
          c.requires c.loop-next.invariant.grows))
          (popped_first c.loop-next.order.items c.pop.new.self.items c.in-Some.next (λ t. t.now) w)
          c.if-not-goes_on.false (c.in_ok-goes_on.ensures.values (map (λ t. t.now) (reverse c.pop.new.self.items)))
          c.loop-next.invariant.value;
    }
