use Rattle.std.proofs.Common.{sym}
use Rattle.larch_certificate_reader.proofs.Fields.{line_cut}
use Rattle.larch_certificate_reader.proofs.line.read_line.Goals as goal

pub returns-then-not-is_number : goal.returns-then-not-is_number
returns-then-not-is_number c =
    let k = line_cut c.args.here c.args.text.now c.in-Some.number.now c.in-Some.rest.now c.if-here.false
    (rw c.in-Some.is at c.cut_at.ensures) in
    sym (rw (← c.if-not-is_number.ensures) at k)

pub returns : goal.returns
returns c =
    let k = line_cut c.args.here c.args.text.now c.in-Some.number.now c.in-Some.rest.now c.if-here.false
    (rw c.in-Some.is at c.cut_at.ensures) in
    rw (rw (← c.if-not-is_number.ensures) at k) c.read_fields-2.ensures
