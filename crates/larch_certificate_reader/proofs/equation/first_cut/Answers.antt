use Rattle.std.proofs.Common.{◌∙◌, sym}
use Rattle.std.proofs.lemmas.List.{take_rest}
use Rattle.larch_certificate_reader.proofs.FirstCut.{first_step}
use Rattle.larch_certificate_reader.proofs.equation.first_cut.Goals as goal

pub loop-i-preserved : goal.loop-i-preserved
loop-i-preserved c =
    let e = rw (c.in_default.is, take_rest c.args.text.now c.loop-i.i) at c.behind_equals.ensures in
    let n = c.if-text-i-eq40.false in
    first_step c.loop-i.i c.args.text.now c.loop-i-test.true n (sym e) ∙ c.loop-i.invariant
