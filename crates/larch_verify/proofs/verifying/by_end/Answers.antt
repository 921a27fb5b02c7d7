use Rattle.std.proofs.Common.{◌≡◌, suc, ◌+◌, length, true, false, Some, ◌∙◌, ap, arith}
use Rattle.std.proofs.lemmas.Grind.{common_steps}
use Rattle.larch_verify.specs.Checking.{state_of}
use Rattle.larch_verify.proofs.Taken.{end_verdict}
use Rattle.larch_verify.proofs.verifying.by_end.Goals as goal

pub returns-then-ends : goal.returns-then-ends
returns-then-ends c =
    end_verdict c.args.theory.now c.args.statement.now (state_of c.args.pool.now c.args.past.now) c.in_ok-ends.ends true
    c.in_ok-ends.ensures c.if-ends.true

pub returns-else-ends : goal.returns-else-ends
returns-else-ends c =
    let k : c.len.result + 1 ≡ suc (length c.args.past.now.places.items) = grind (arith, common_steps) in
    ap Some k
    ∙ end_verdict c.args.theory.now c.args.statement.now (state_of c.args.pool.now c.args.past.now) c.in_ok-ends.ends
    false c.in_ok-ends.ensures c.if-ends.false
