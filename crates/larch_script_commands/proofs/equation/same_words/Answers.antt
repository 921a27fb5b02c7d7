use Rattle.std.proofs.Common.{rules, IsTrue}
use Rattle.larch_script_commands.specs.Bare.{bare_word}
use Rattle.larch_script_commands.proofs.TreeLists.{differs_at}
use Rattle.larch_script_commands.proofs.equation.same_words.Goals as goal

pub returns-then-not-same_word : goal.returns-then-not-same_word
returns-then-not-same_word c = (
  (λ t. absurd cc),
  (λ k. let h : IsTrue c.same_word.result =
      c.same_word.ensures.1 (differs_at bare_word c.args.left.now c.args.right.now c.loop-i.i c.index-left-i.result
      c.index-right-i.result (search rules) (search rules) c.index-left-i.is c.index-right-i.is k) in search rules),
)
