-- Marks that wait stand in the way, and so does the end.
use Rattle.std.specs.Prelude.{true}
use Rattle.std.proofs.Common.{◌∙◌}
use Rattle.larch_prove.proofs.Reached.{done_of, made_checking, quiet_of}
use Rattle.larch_prove.proofs.Turns.{checking_done, checking_set, checking_waits}
use Rattle.larch_prove.proofs.going.Going.begin_checking.Goals as goal

pub returns-then-not-is_empty-clause-refused : goal.returns-then-not-is_empty-clause-refused
returns-then-not-is_empty-clause-refused c = λ p w.
    checking_waits p
    (quiet_of c.args.self.now p c.is_empty.result c.is_empty.ensures w ∙ c.if-not-is_empty.true)

pub returns-then-self-clause-refused : goal.returns-then-self-clause-refused
returns-then-self-clause-refused c = λ p w.
    checking_done p
    (quiet_of c.args.self.now p c.is_empty.result c.is_empty.ensures w ∙ c.if-not-is_empty.false)
    (done_of c.args.self.now p w ∙ c.if-self.true)

pub returns-clause-made : goal.returns-clause-made
returns-clause-made c = λ p w.
    made_checking c.args.self.now c.check_boxes.new.draft true p _ w
    (checking_set p
    (quiet_of c.args.self.now p c.is_empty.result c.is_empty.ensures w ∙ c.if-not-is_empty.false)
    (done_of c.args.self.now p w ∙ c.if-self.false))
    (c.check_boxes.ensures _ _ c.args.self.now.work.store p w.work.draft)
