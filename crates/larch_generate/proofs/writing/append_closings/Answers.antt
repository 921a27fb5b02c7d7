use Rattle.larch_generate.proofs.Going.{closings_more}
use Rattle.larch_generate.proofs.writing.append_closings.Goals as goal

pub loop-preserved : goal.loop-preserved
loop-preserved c = closings_more _ _ _ c.loop.counter c.loop.invariant c.in_ok-append.ensures.ok
