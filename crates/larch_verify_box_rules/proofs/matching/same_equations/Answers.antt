use Rattle.std.proofs.Common.{◌≡◌, ◌<◌, length, true, arith}
use Rattle.larch_verify_history.specs.Past.{equated_in}
use Rattle.larch_verify_box_rules.proofs.Alike.{differ_at}
use Rattle.larch_verify_box_rules.proofs.matching.same_equations.Goals as goal

pub returns-then-not-same_equated : goal.returns-then-not-same_equated
returns-then-not-same_equated c =
    let l : c.loop-i.i < length c.args.others.now = omega (arith, c.loop-i-test.true, c.if-ones-others.false) in (
      λ e. cc,
      λ h. absurd (differ_at (equated_in c.args.pool.now) c.args.ones.now c.args.others.now c.loop-i.i
          (record { left = 0; right = 0 }) (record { left = 0; right = 0 })
          c.loop-i-test.true l (λ k. let t : c.same_equated.result ≡ true = c.same_equated.ensures.1 k in
          let f = c.if-not-same_equated.true in cc) h),
    )
