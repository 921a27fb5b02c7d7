use Rattle.larch_models.proofs.Cuts.{cut_missing, lacks_more}
use Rattle.larch_models.proofs.parts.cut.Goals as goal

pub loop-i-preserved : goal.loop-i-preserved
loop-i-preserved c =
    lacks_more c.args.byte c.loop-i.i c.args.text.now c.loop-i-test.true c.if-text-i.false c.loop-i.invariant

pub returns-clause-none : goal.returns-clause-none
returns-clause-none c = cut_missing c.args.byte c.loop-i.i c.args.text.now c.loop-i-test.false c.loop-i.invariant
