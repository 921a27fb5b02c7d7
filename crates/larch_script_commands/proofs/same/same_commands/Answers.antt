use Rattle.std.proofs.Common.{rules, IsTrue}
use Rattle.larch_script_commands.specs.Bare.{bare}
use Rattle.larch_script_commands.proofs.TreeLists.{differs_at}
use Rattle.larch_script_commands.proofs.same.same_commands.Goals as goal

pub returns-then-not-same_command : goal.returns-then-not-same_command
returns-then-not-same_command c = (
  (λ t. absurd cc),
  (λ k. let h : IsTrue c.same_command.result =
      c.same_command.ensures.1 (differs_at bare c.args.left.now c.args.right.now c.loop-i.i c.index-commands-i.result
      c.index-others-i.result (search rules) (search rules) (search rules) (search rules) k) in search rules),
)
