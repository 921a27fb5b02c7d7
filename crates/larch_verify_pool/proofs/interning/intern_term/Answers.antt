use Rattle.std.proofs.Common.{◌≡◌, ℕ, ◌<◌, List, [], ◌∷◌, ◌++◌, length, map, All, subst, sym, ◌∙◌, ap, arith}
use Rattle.std.specs.Prelude.{reverse}
use Rattle.std.proofs.lemmas.Grind.{common_steps}
use Rattle.std.proofs.lemmas.List.Elements.{All-nil}
use Rattle.larch_verify_pool.specs.Pooled.{tree_in}
use Rattle.larch_verify_pool.specs.Postorder.{read_all}
use Rattle.larch_verify_pool.proofs.Front.{grows_refl, grows_trans}
use Rattle.larch_verify_pool.proofs.Postorders.{last_left, none_left, read_more, read_whole}
use Rattle.larch_verify_pool.proofs.interning.intern_term.Goals as goal

pub loop-next-preserved : goal.loop-next-preserved
loop-next-preserved c =
    let w : c.loop-next.order.items ≡ c.pop.new.self.items ++ c.in-Some.next ∷ [] = grind (arith, common_steps) in
    record {
      grows =
          grows_trans c.args.pool.now c.loop-next.pool c.intern_next.new.pool c.loop-next.invariant.grows
          c.in_ok-intern_next.ensures.grows;
      within = c.in_ok-intern_next.ensures.within;
      trees =
          read_more c.loop-next.order.items c.pop.new.self.items c.in-Some.next (λ t. t.now)
          (map (tree_in c.loop-next.pool.trees) c.loop-next.numbers.items)
          (map (tree_in c.intern_next.new.pool.trees) c.intern_next.new.numbers.items) (c.args.term.now ∷ []) w
          c.in_ok-intern_next.ensures.trees c.loop-next.invariant.trees;
    }

pub loop-next-init : goal.loop-next-init
loop-next-init c =
    let n : c.new-numbers.result.items ≡ [] = c.new-numbers.ensures.items in
    record {
      grows = grows_refl c.args.pool.now;
      within =
          subst (λ (xs : List ℕ). All (λ m. m < length c.args.pool.now.trees) xs) (sym n)
          (All-nil (λ m. m < length c.args.pool.now.trees));
      trees =
          (λ i. read_all (map (tree_in c.args.pool.now.trees) (n i)) (c.in_ok-order.ensures i))
          ∙ read_whole c.args.term.now;
    }

pub unreachable-requires : goal.unreachable-requires
unreachable-requires c =
    let e : c.loop-next.order.items ≡ [] = grind (arith, common_steps) in
    let n : c.loop-next.numbers.items ≡ [] = grind (arith, common_steps) in
    none_left c.loop-next.pool.trees c.loop-next.numbers.items c.args.term.now
    (ap
    (λ os. read_all (map (tree_in c.loop-next.pool.trees) c.loop-next.numbers.items) (map (λ t. t.now) (reverse os)))
    (sym e) ∙ c.loop-next.invariant.trees) n

pub returns-clause-tree : goal.returns-clause-tree
returns-clause-tree c =
    let e : c.loop-next.order.items ≡ [] = grind (arith, common_steps) in
    last_left c.loop-next.pool.trees c.loop-next.numbers.items c.pop-2.new.self.items c.in-Some-pop.number
    c.args.term.now c.loop-next.invariant.within c.in-Some-pop.ensures.items
    (ap
    (λ os. read_all (map (tree_in c.loop-next.pool.trees) c.loop-next.numbers.items) (map (λ t. t.now) (reverse os)))
    (sym e) ∙ c.loop-next.invariant.trees)
