use Rattle.std.proofs.Common.{◌<◌, arith, length, sym, rules}
use Rattle.std.proofs.lemmas.List.{take_all}
use Rattle.std.proofs.lemmas.List.Elements.{All-get_or, All-more, All-same}
use Rattle.larch_verify_pool.specs.Pooled.{Pooled, tree_in}
use Rattle.larch_verify_pool.specs.Substitution.{IsVar}
use Rattle.larch_verify_pool.specs.declared.substitution.PoolBinding.{PoolBinding}
use Rattle.larch_verify_pool.proofs.substitution.are_bindings.Goals as goal

abbrev Bound : Pooled → PoolBinding → Type 0
Bound p b = (b.variable < length p.trees) × (b.image < length p.trees) × IsVar (tree_in p.trees b.variable)

pub loop-binding-preserved : goal.loop-binding-preserved
loop-binding-preserved c =
    All-more (Bound c.args.pool.now) c.args.by.now c.loop-binding.binding-index _ c.loop-binding-test.true
    c.loop-binding.invariant (c.if-not-is_binding.ensures.0 (search rules))

pub returns-then-not-is_binding : goal.returns-then-not-is_binding
returns-then-not-is_binding c = (
  λ t. absurd (grind arith),
  λ w. c.if-not-is_binding.ensures.1
      (All-get_or (Bound c.args.pool.now) c.args.by.now c.loop-binding.binding-index _ c.loop-binding-test.true w),
)

pub returns : goal.returns
returns c = (
  λ t. All-same (Bound c.args.pool.now) _ _
      (sym (take_all c.loop-binding.binding-index c.args.by.now c.loop-binding-test.false)) c.loop-binding.invariant,
  λ w. search rules,
)
