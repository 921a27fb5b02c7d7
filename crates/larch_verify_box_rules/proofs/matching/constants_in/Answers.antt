use Rattle.std.proofs.Common.{◌+◌, ◌∷◌, [], ◌∙◌, sym, ap, ◌++◌, take}
use Rattle.std.proofs.lemmas.List.{take_more}
use Rattle.larch_calculus.specs.Formula.{constant}
use Rattle.larch_verify_meaning.specs.Events.{part_operator}
use Rattle.larch_verify_pool.proofs.Front.{grows_trans}
use Rattle.larch_verify_parts.proofs.Numbers.{has_within}
use Rattle.larch_verify_box_rules.proofs.Alike.{numbers_within}
use Rattle.larch_verify_box_rules.proofs.Boxes.{constants_more}
use Rattle.larch_verify_box_rules.proofs.matching.constants_in.Goals as goal

pub loop-i-preserved : goal.loop-i-preserved
loop-i-preserved c = record {
  grows =
      grows_trans c.args.pool.now c.loop-i.pool c.constant_in.new.pool c.loop-i.invariant.grows
      c.in_ok-number.ensures.grows;
  within =
      numbers_within c.loop-i.pool.trees c.constant_in.new.pool.trees c.loop-i.numbers.items c.push.new.self.items
      c.in_ok-number.number
      c.in_ok-number.ensures.grows.1 c.loop-i.invariant.within c.in_ok-push.ensures.items
      (has_within c.constant_in.new.pool c.in_ok-number.number
      (constant (part_operator c.args.known.now.number (c.loop-i.i + 1) c.index-parts-i.result))
      c.in_ok-number.ensures.tree);
  trees =
      constants_more c.loop-i.pool.trees c.constant_in.new.pool.trees c.args.known.now.number c.loop-i.i
      c.as_slice-parts.result.now c.index-parts-i.result
      c.loop-i.numbers.items c.push.new.self.items c.in_ok-number.number
      c.in_ok-number.ensures.grows.1 c.loop-i.invariant.within c.loop-i.invariant.trees c.loop-i-test.true
      (take_more c.as_slice-parts.result.now c.loop-i.i c.index-parts-i.result c.loop-i-test.true
      ∙ ap (λ x. take c.loop-i.i c.as_slice-parts.result.now ++ x ∷ []) (sym c.index-parts-i.is))
      c.in_ok-number.ensures.tree c.in_ok-push.ensures.items;
}
