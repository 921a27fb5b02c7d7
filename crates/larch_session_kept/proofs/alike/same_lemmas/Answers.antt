-- Lemma by lemma.
use Rattle.std.proofs.Common.{IsTrue, rules}
use Rattle.larch_session_kept.proofs.Helps.{both_more, equal_at}
use Rattle.larch_session_kept.proofs.alike.same_lemmas.Goals as goal

pub returns-then-not-same_lemma : goal.returns-then-not-same_lemma
returns-then-not-same_lemma c = (
  (λ t. absurd cc),
  (λ k. let h : IsTrue c.same_lemma.result =
      c.same_lemma.ensures.1 (equal_at c.args.left.now c.args.right.now c.loop-i.i c.index-left-i.result
      c.index-right-i.result (search rules) (search rules) c.index-left-i.is c.index-right-i.is k)
      in search rules),
)

pub loop-i-preserved : goal.loop-i-preserved
loop-i-preserved c =
    let same : IsTrue c.same_lemma.result = search rules in
    both_more c.args.left.now c.args.right.now c.loop-i.i c.index-left-i.result c.index-right-i.result (search rules)
    (search rules) c.index-left-i.is c.index-right-i.is (c.same_lemma.ensures.0 same) c.loop-i.invariant
