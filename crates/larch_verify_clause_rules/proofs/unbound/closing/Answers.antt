use Rattle.std.proofs.Common.{◌≡◌, [], ◌∷◌, ◌++◌, get_or, refl, arith}
use Rattle.std.proofs.lemmas.Grind.{common_steps}
use Rattle.larch_verify_pool.specs.declared.substitution.PoolBinding.{PoolBinding}
use Rattle.larch_verify_clause_rules.proofs.Unbinding.{bindings_pushed, entries_pushed}
use Rattle.larch_verify_clause_rules.proofs.unbound.closing.Goals as goal

pub loop-variable-preserved : goal.loop-variable-preserved
loop-variable-preserved c =
    let b : PoolBinding =
    record {
      variable = get_or c.args.variables.now c.loop-variable.variable-index 0;
      image = c.in_ok-image.image;
    } in
    let p : c.push.new.self.items ≡ c.loop-variable.by.items ++ b ∷ [] = grind (arith, common_steps) in
    record {
      bindings =
          bindings_pushed c.args.pool.now c.truth_in.new.pool c.args.variables.now c.loop-variable.variable-index b
          c.loop-variable.by.items c.push.new.self.items c.loop-variable-test.true
          c.in_ok-image.ensures.grows c.requires refl c.in_ok-image.ensures.tree p c.loop-variable.invariant.bindings;
      entries =
          entries_pushed c.args.pool.now c.truth_in.new.pool c.args.variables.now c.loop-variable.variable-index b
          c.loop-variable.by.items c.push.new.self.items c.loop-variable-test.true
          c.in_ok-image.ensures.grows c.requires refl c.in_ok-image.ensures.tree p c.loop-variable.invariant.entries;
    }
