use Rattle.std.proofs.Common.{ℕ, ◌<◌, length, sym, arith, rules}
use Rattle.std.proofs.lemmas.List.{take_all}
use Rattle.std.proofs.lemmas.List.Elements.{All-get_or, All-more, All-same}
use Rattle.larch_verify_pool.proofs.pool.Pool.are_within.Goals as goal

pub loop-number-preserved : goal.loop-number-preserved
loop-number-preserved c =
    All-more (λ (n : ℕ). n < length c.args.self.now.trees) c.args.numbers.now c.loop-number.number-index 0
    c.loop-number-test.true c.loop-number.invariant (omega (arith, c.if-number-len.false, c.len.ensures))

pub returns-then-number-len : goal.returns-then-number-len
returns-then-number-len c = (
  λ t. absurd (grind arith),
  λ w.
      let h =
      All-get_or (λ (n : ℕ). n < length c.args.self.now.trees) c.args.numbers.now c.loop-number.number-index 0
      c.loop-number-test.true w in
      absurd (omega (arith, h, c.if-number-len.true, c.len.ensures)),
)

pub returns : goal.returns
returns c = (
  λ t. All-same (λ (n : ℕ). n < length c.args.self.now.trees) _ _
      (sym (take_all c.loop-number.number-index c.args.numbers.now c.loop-number-test.false)) c.loop-number.invariant,
  λ w. search rules,
)
