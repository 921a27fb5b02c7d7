use Rattle.std.proofs.Common.{rules, IsTrue}
use Rattle.larch_script_commands.specs.Bare.{bare_tree}
use Rattle.larch_script_commands.proofs.TreeLists.{differs_at, same_application}
use Rattle.larch_script_commands.proofs.equation.+same.Goals as goal

pub same_term-returns-then-eq : goal.same_term-returns-then-eq
same_term-returns-then-eq t c =
    same_application c.args.left.now c.args.right.now c.in-Apply-Apply.name c.in-Apply-Apply.other
    c.in-Apply-Apply.arguments c.in-Apply-Apply.others
    c.in-Apply-Apply._pos c.in-Apply-Apply._other_pos c.same_terms.result
    (search rules) (search rules) (search rules) c.same_terms.ensures

pub same_terms-returns-then-not-same_term : goal.same_terms-returns-then-not-same_term
same_terms-returns-then-not-same_term t c = (
  (λ n. absurd cc),
  (λ k. let h : IsTrue c.same_term.result =
      c.same_term.ensures.1 (differs_at bare_tree c.args.left.now c.args.right.now c.loop-i.i c.index-terms-i.result
      c.index-others-i.result (search rules) (search rules) (search rules) (search rules) k) in search rules),
)
