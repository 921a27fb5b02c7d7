use Rattle.larch_sorts.proofs.ToldByCounts.{both_told_read}
use Rattle.larch_sorts.proofs.counted.counted_sides.Goals as goal

pub returns-in_ok-told-in-Some-clause-read : goal.returns-in_ok-told-in-Some-clause-read
returns-in_ok-told-in-Some-clause-read c =
    both_told_read c.args.signature.now c.args.scope.now c.args.raw.now c.in_ok-told-in-Some.told c.in-Some.right
    c.in-Some.is c.in_ok-told-in-Some.ensures.read
