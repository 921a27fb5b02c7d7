-- Hypothesis by hypothesis.
use Rattle.larch_prove_beginning.proofs.Saying.{all_done, said_further, said_short}
use Rattle.larch_prove_beginning.proofs.hypotheses.said_equations.Goals as goal

pub returns-in_default : goal.returns-in_default
returns-in_default c =
    said_short c.loop-index.equations.items c.args.hypotheses.now c.args.lines.now c.loop-index.index c.get.result
    c.get.ensures.lookup.3 c.in_default.is c.loop-index.invariant

pub loop-index-preserved : goal.loop-index-preserved
loop-index-preserved c =
    said_further c.loop-index.equations.items c.push_said.new.equations.items c.args.hypotheses.now c.args.lines.now
    c.loop-index.index c.index-hypotheses-index.result c.in-Some.line c.get.result c.loop-index-test.true
    c.index-hypotheses-index.is c.get.ensures.lookup.3 c.in-Some.is c.in_ok-push_said.ensures
    c.loop-index.invariant

pub returns : goal.returns
returns c =
    all_done c.loop-index.equations.items c.args.hypotheses.now c.args.lines.now c.loop-index.index
    c.loop-index-test.false c.loop-index.invariant
