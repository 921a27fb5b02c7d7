-- Marks come before the end, and the end before all else.
use Rattle.std.proofs.Common.{◌∙◌}
use Rattle.larch_prove.proofs.Reached.{done_of, quiet_of, turn_made, turn_told}
use Rattle.larch_prove.proofs.Turns.{turn_done, turn_so, turn_waits}
use Rattle.larch_prove.proofs.going.Going.take_turn.Goals as goal

pub returns-then-waits-clause-refused : goal.returns-then-waits-clause-refused
returns-then-waits-clause-refused c = λ p w.
    turn_waits c.args.kind.now p c.requires.turn
    (quiet_of c.args.self.now p c.is_empty-waits.result c.is_empty-waits.ensures w ∙ c.if-waits.true)

pub returns-then-self-clause-refused : goal.returns-then-self-clause-refused
returns-then-self-clause-refused c = λ p w.
    turn_done c.args.kind.now p c.requires.turn
    (quiet_of c.args.self.now p c.is_empty-waits.result c.is_empty-waits.ensures w ∙ c.if-waits.false)
    (done_of c.args.self.now p w ∙ c.if-self.true)

pub returns-clause-made : goal.returns-clause-made
returns-clause-made c =
    turn_made c.args.self.now c.carry_out.new.self c.args.kind.now c.carry_out.result
    (λ p w. turn_so c.args.kind.now p c.requires.turn
    (quiet_of c.args.self.now p c.is_empty-waits.result c.is_empty-waits.ensures w ∙ c.if-waits.false)
    (done_of c.args.self.now p w ∙ c.if-self.false)) c.carry_out.ensures.made

pub returns-clause-refused : goal.returns-clause-refused
returns-clause-refused c =
    turn_told c.args.self.now c.args.kind.now c.carry_out.result
    (λ p w. turn_so c.args.kind.now p c.requires.turn
    (quiet_of c.args.self.now p c.is_empty-waits.result c.is_empty-waits.ensures w ∙ c.if-waits.false)
    (done_of c.args.self.now p w ∙ c.if-self.false)) c.carry_out.ensures.refused
