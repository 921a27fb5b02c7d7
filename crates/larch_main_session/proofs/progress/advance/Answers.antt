-- A line passes the step on to its command; where there is none the session stops or waits.
use Rattle.larch_main_session.proofs.Steps.{moves_after, line_passes, line_refused}
use Rattle.larch_main_session.proofs.progress.advance.Goals as goal

pub returns-in-Ok-clause-moves : goal.returns-in-Ok-clause-moves
returns-in-Ok-clause-moves g c =
    let p = c.args.progress.now in
    moves_after p c.take_line.new.reader c.carry_out.new.progress _ _ _ _ _ c.carry_out.result
    (line_passes p c.take_line.new.reader _ _ c.in-Ok.line c.in-Ok.ensures.line c.take_line.ensures.within)
    (rw (c.taken-before.ensures, c.bytes.ensures) at c.carry_out.ensures.moves)

pub returns-in-Err-clause-moves : goal.returns-in-Err-clause-moves
returns-in-Err-clause-moves g c =
    let p = c.args.progress.now in
    line_refused p c.take_line.new.reader _ _ _ c.in-Err.refusal c.without_line.result c.in-Err.ensures.none
    c.in-Err.ensures.refused
    (rw c.taken-before.ensures at c.without_line.ensures)
