use Rattle.std.proofs.Common.{rules, IsTrue}
use Rattle.larch_script_commands.specs.Bare.{bare_instance}
use Rattle.larch_script_commands.proofs.TreeLists.{differs_at}
use Rattle.larch_script_commands.proofs.same.same_instances.Goals as goal

pub returns-then-not-same_instance : goal.returns-then-not-same_instance
returns-then-not-same_instance c = (
  (λ t. absurd cc),
  (λ k. let h : IsTrue c.same_instance.result =
      c.same_instance.ensures.1 (differs_at bare_instance c.args.left.now c.args.right.now c.loop-i.i
      c.index-left-i.result c.index-right-i.result (search rules) (search rules) c.index-left-i.is c.index-right-i.is k)
      in search rules),
)
