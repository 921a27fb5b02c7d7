use Rattle.larch_certificate_text.proofs.Cuts.{cut_found, cut_missing}
use Rattle.larch_certificate_reader.proofs.parts.cut_at.Goals as goal

pub returns-then-text-i : goal.returns-then-text-i
returns-then-text-i c =
    cut_found c.args.byte c.loop-i.i c.args.text.now c.loop-i-test.true c.if-text-i.true c.loop-i.invariant

pub returns : goal.returns
returns c = cut_missing c.args.byte c.loop-i.i c.args.text.now c.loop-i-test.false c.loop-i.invariant
