-- The end stands in the way.
use Rattle.std.specs.Prelude.{false}
use Rattle.std.proofs.Common.{◌∙◌}
use Rattle.larch_prove.proofs.Reached.{done_of, made_checking}
use Rattle.larch_prove.proofs.Turns.{unchecking_done, unchecking_set}
use Rattle.larch_prove.proofs.going.Going.end_checking.Goals as goal

pub returns-then-self-clause-refused : goal.returns-then-self-clause-refused
returns-then-self-clause-refused c = λ p w. unchecking_done p (done_of c.args.self.now p w ∙ c.if-self.true)

pub returns-clause-made : goal.returns-clause-made
returns-clause-made c = λ p w.
    made_checking c.args.self.now c.check_boxes.new.draft false p _ w
    (unchecking_set p (done_of c.args.self.now p w ∙ c.if-self.false))
    (c.check_boxes.ensures _ _ c.args.self.now.work.store p w.work.draft)
