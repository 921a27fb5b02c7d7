use Rattle.larch_generate.proofs.Going.{openings_more}
use Rattle.larch_generate.proofs.writing.append_openings.Goals as goal

pub loop-preserved : goal.loop-preserved
loop-preserved c = openings_more _ _ _ c.loop.counter c.loop.invariant c.in_ok-append.ensures.ok
