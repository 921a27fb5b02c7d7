use Rattle.std.proofs.Common.{arith}
use Rattle.larch_certificate_printer.proofs.Writing.{others_fall}
use Rattle.larch_certificate_printer.proofs.term.write_other.Goals as goal

pub returns-clause-waits : goal.returns-clause-waits
returns-clause-waits c =
    let a = c.in_ok-push-3.ensures in
    let b = c.in-Some.ensures.some in
    let k = others_fall c.in-Some.further.now c.first-item.result c.in-len1-up.len_at_least c.first-item.is in
    rw (a, b) (omega (arith, k))
