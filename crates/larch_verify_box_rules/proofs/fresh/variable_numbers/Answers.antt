use Rattle.larch_term.specs.Tree.{var}
use Rattle.larch_verify_pool.proofs.Front.{grows_trans}
use Rattle.larch_verify_parts.proofs.Numbers.{has_within}
use Rattle.larch_verify_box_rules.proofs.Alike.{numbers_within}
use Rattle.larch_verify_box_rules.proofs.Freed.{terms_more}
use Rattle.larch_verify_box_rules.proofs.fresh.variable_numbers.Goals as goal

pub loop-variable-preserved : goal.loop-variable-preserved
loop-variable-preserved c = record {
  grows =
      grows_trans c.args.pool.now c.loop-variable.pool c.decode_variable.new.pool c.loop-variable.invariant.grows
      c.in_ok-number.ensures.grows;
  within =
      numbers_within c.loop-variable.pool.trees c.decode_variable.new.pool.trees c.loop-variable.numbers.items
      c.push.new.self.items c.in_ok-number.number
      c.in_ok-number.ensures.grows.1 c.loop-variable.invariant.within c.in_ok-push.ensures.items
      (has_within c.decode_variable.new.pool c.in_ok-number.number
      (var c.variable-item.result.name c.variable-item.result.sort) c.in_ok-number.ensures.tree);
  trees =
      terms_more c.loop-variable.pool.trees c.decode_variable.new.pool.trees c.args.variables.now
      c.loop-variable.variable-index c.variable-item.result
      c.loop-variable.numbers.items c.push.new.self.items c.in_ok-number.number
      c.in_ok-number.ensures.grows.1 c.loop-variable.invariant.within c.loop-variable.invariant.trees
      c.loop-variable-test.true
      c.variable-item.is c.in_ok-number.ensures.tree c.in_ok-push.ensures.items;
}
