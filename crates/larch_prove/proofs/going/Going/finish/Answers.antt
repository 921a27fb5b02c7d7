-- Marks come before the end.
use Rattle.std.proofs.Common.{◌∙◌}
use Rattle.larch_prove.proofs.Reached.{done_of, quiet_of}
use Rattle.larch_prove.proofs.Turns.{ended, not_ended, waits_refused}
use Rattle.larch_prove.proofs.going.Going.finish.Goals as goal

pub returns-then-not-is_empty-clause-refused : goal.returns-then-not-is_empty-clause-refused
returns-then-not-is_empty-clause-refused c = λ p w.
    waits_refused p _ (quiet_of c.args.self.now p c.is_empty.result c.is_empty.ensures w ∙ c.if-not-is_empty.true)

pub returns-then-not-self-clause-refused : goal.returns-then-not-self-clause-refused
returns-then-not-self-clause-refused c = λ p w.
    not_ended p (quiet_of c.args.self.now p c.is_empty.result c.is_empty.ensures w ∙ c.if-not-is_empty.false)
    (done_of c.args.self.now p w ∙ c.if-not-self.true)

pub returns-clause-made : goal.returns-clause-made
returns-clause-made c = λ p w.
    ended p (quiet_of c.args.self.now p c.is_empty.result c.is_empty.ensures w ∙ c.if-not-is_empty.false)
    (done_of c.args.self.now p w ∙ c.if-not-self.false)
