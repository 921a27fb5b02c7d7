use Rattle.std.proofs.Common.{◌<◌, ◌∙◌, length, sym, arith}
use Rattle.larch_certificate_reader.proofs.Lines.{line_step}
use Rattle.larch_certificate_reader.proofs.ListSteps.{cut_shorter}
use Rattle.larch_certificate_reader.proofs.certificate.read_onto.Goals as goal

pub lines-preserved : goal.lines-preserved
lines-preserved c =
    let shorter : length c.in-Some.others.now
    < length c.lines.rest.now =
    cut_shorter 10 c.lines.rest.now c.in-Some.first.now c.in-Some.others.now
    (sym (rw c.in-Some.is at c.cut_at.ensures)) in
    record {
      same =
          rw c.in_ok-push.ensures.ok
          (line_step c.args.relative c.lines.number c.lines.lines c.lines.rest.now c.in-Some.first.now
          c.in-Some.others.now c.in-Some-2.line (rw c.in-Some.is at c.cut_at.ensures)
          (rw c.in-Some-2.is at c.in_ok-line.ensures)) ∙ c.lines.invariant.same;
      small = omega (arith, c.lines.invariant.small, shorter);
    }
