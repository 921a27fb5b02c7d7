-- What was given, written and reported so far, and what the last step adds.
use Rattle.std.proofs.Common.{◌∙◌, refl}
use Rattle.larch_main_session.proofs.Endings.{nothing_reported, nothing_yet, reported_cut, reported_lacking}
use Rattle.larch_main_session.proofs.Endings.{reported_nothing, so_far_breaks, so_far_nothing, so_far_on}
use Rattle.larch_main_session.proofs.Endings.{so_far_reply_cut}
use Rattle.larch_main_session.proofs.Endings.{so_far_start}
use Rattle.larch_main_session.proofs.Endings.{said_input, said_output, said_reports, said_sink, said_source}
use Rattle.larch_main_session.proofs.session.run_session.Goals as goal

pub returns-in-Err-clause-output : goal.returns-in-Err-clause-output
returns-in-Err-clause-output g c = nothing_yet _ _ _ c.args.steps.now

pub returns-in-Err-clause-reports : goal.returns-in-Err-clause-reports
returns-in-Err-clause-reports g c = nothing_reported _ _ _ c.args.steps.now

pub returns-in-Err-Failed-clause-output : goal.returns-in-Err-Failed-clause-output
returns-in-Err-Failed-clause-output g c =
    so_far_reply_cut _ _ _ _ c.loop-reply.progress _ _ _ c.loop-reply.invariant.so_far c.advance.new.progress _ _ _
    c.in-Ok-Goes.reply
    (rw c.in-Ok-Goes.field-0-is at c.in-Ok-Goes.ensures.moves) (rw c.bytes.ensures at c.in-Err-Failed.ensures.front)

pub returns-in-Err-Failed-clause-reports : goal.returns-in-Err-Failed-clause-reports
returns-in-Err-Failed-clause-reports g c =
    reported_cut _ _ _ _ c.loop-reply.progress _ _ _ c.loop-reply.invariant.so_far c.advance.new.progress _ _ _
    c.in-Ok-Goes.reply
    (rw c.in-Ok-Goes.field-0-is at c.in-Ok-Goes.ensures.moves) (rw c.bytes.ensures at c.in-Err-Failed.ensures.front)

pub returns-in-Err-Memory-put_all-clause-output : goal.returns-in-Err-Memory-put_all-clause-output
returns-in-Err-Memory-put_all-clause-output g c =
    so_far_reply_cut _ _ _ _ c.loop-reply.progress _ _ _ c.loop-reply.invariant.so_far c.advance.new.progress _ _ _
    c.in-Ok-Goes.reply
    (rw c.in-Ok-Goes.field-0-is at c.in-Ok-Goes.ensures.moves)
    (rw c.bytes.ensures at c.in-Err-Memory-put_all.ensures.front)

pub returns-in-Err-Memory-put_all-clause-reports : goal.returns-in-Err-Memory-put_all-clause-reports
returns-in-Err-Memory-put_all-clause-reports g c =
    reported_cut _ _ _ _ c.loop-reply.progress _ _ _ c.loop-reply.invariant.so_far c.advance.new.progress _ _ _
    c.in-Ok-Goes.reply
    (rw c.in-Ok-Goes.field-0-is at c.in-Ok-Goes.ensures.moves)
    (rw c.bytes.ensures at c.in-Err-Memory-put_all.ensures.front)

pub loop-reply-init : goal.loop-reply-init
loop-reply-init g c = record {
  so_far =
      so_far_start c.args.limit _ _ c.args.steps.now c.in-Ok.progress c.in-Ok.ensures.start c.in-Ok.ensures.nothing
      c.in-Ok.ensures.still_open;
  no_source_fault = refl;
  no_sink_fault = refl;
}

pub loop-reply-preserved : goal.loop-reply-preserved
loop-reply-preserved g c = record {
  so_far =
      so_far_on _ _ _ _ c.loop-reply.progress _ _ _ c.loop-reply.invariant.so_far c.advance.new.progress _ _ _
      c.in-Ok-Goes.reply
      (rw c.in-Ok-Goes.field-0-is at c.in-Ok-Goes.ensures.moves) (rw c.bytes.ensures at c.in-Ok-put_all.ensures.ok);
  no_source_fault = c.in-Ok-Goes.ensures.fine ∙ c.loop-reply.invariant.no_source_fault;
  no_sink_fault = c.in-Ok-put_all.ensures.fine ∙ c.loop-reply.invariant.no_sink_fault;
}

pub returns-in-Ok-Stops-clause-output : goal.returns-in-Ok-Stops-clause-output
returns-in-Ok-Stops-clause-output g c =
    said_output _ _ _ _ c.loop-reply.progress _ _ _ c.loop-reply.invariant.so_far c.advance.new.progress _ _
    c.in-Ok-Stops.text c.in-Ok-Stops.status (rw c.in-Ok-Stops.field-0-is at c.in-Ok-Stops.ensures.moves) _ _ _
    c.say_at_end.result (rw c.bytes-in-Ok-Stops.ensures at c.say_at_end.ensures)

pub returns-in-Ok-Stops-clause-input : goal.returns-in-Ok-Stops-clause-input
returns-in-Ok-Stops-clause-input g c =
    said_input _ _ _ _ c.loop-reply.progress _ _ _ c.loop-reply.invariant.so_far c.advance.new.progress _ _
    c.in-Ok-Stops.text c.in-Ok-Stops.status (rw c.in-Ok-Stops.field-0-is at c.in-Ok-Stops.ensures.moves) _ _ _
    c.say_at_end.result (rw c.bytes-in-Ok-Stops.ensures at c.say_at_end.ensures)

pub returns-in-Ok-Stops-clause-reports : goal.returns-in-Ok-Stops-clause-reports
returns-in-Ok-Stops-clause-reports g c =
    said_reports _ _ _ _ c.loop-reply.progress _ _ _ c.loop-reply.invariant.so_far c.advance.new.progress _ _
    c.in-Ok-Stops.text c.in-Ok-Stops.status (rw c.in-Ok-Stops.field-0-is at c.in-Ok-Stops.ensures.moves) _ _ _
    c.say_at_end.result (rw c.bytes-in-Ok-Stops.ensures at c.say_at_end.ensures)

pub returns-in-Ok-Stops-clause-source_faults : goal.returns-in-Ok-Stops-clause-source_faults
returns-in-Ok-Stops-clause-source_faults g c =
    said_source _ _ _ _ c.loop-reply.progress _ _ _ c.loop-reply.invariant.so_far c.advance.new.progress _ _
    c.in-Ok-Stops.text c.in-Ok-Stops.status (rw c.in-Ok-Stops.field-0-is at c.in-Ok-Stops.ensures.moves) _ _ _
    c.say_at_end.result (rw c.bytes-in-Ok-Stops.ensures at c.say_at_end.ensures) _ _
    (c.in-Ok-Stops.ensures.fine ∙ c.loop-reply.invariant.no_source_fault)

pub returns-in-Ok-Stops-clause-sink_faults : goal.returns-in-Ok-Stops-clause-sink_faults
returns-in-Ok-Stops-clause-sink_faults g c =
    said_sink _ _ _ _ c.loop-reply.progress _ _ _ c.loop-reply.invariant.so_far c.advance.new.progress _ _
    c.in-Ok-Stops.text c.in-Ok-Stops.status (rw c.in-Ok-Stops.field-0-is at c.in-Ok-Stops.ensures.moves) _ _ _
    c.say_at_end.result (rw c.bytes-in-Ok-Stops.ensures at c.say_at_end.ensures) _ c.loop-reply.invariant.no_sink_fault

pub returns-in-Err-ReadFault-clause-output : goal.returns-in-Err-ReadFault-clause-output
returns-in-Err-ReadFault-clause-output g c =
    let moves = rw c.in-Err-ReadFault.field-0-is at c.in-Err-ReadFault.ensures.moves in
    so_far_breaks _ _ _ _ c.loop-reply.progress _ _ _ c.loop-reply.invariant.so_far c.advance.new.progress _ moves.0

pub returns-in-Err-ReadFault-clause-reports : goal.returns-in-Err-ReadFault-clause-reports
returns-in-Err-ReadFault-clause-reports g c =
    let moves = rw c.in-Err-ReadFault.field-0-is at c.in-Err-ReadFault.ensures.moves in
    reported_nothing _ _ _ _ c.loop-reply.progress _ _ _ c.loop-reply.invariant.so_far _ moves.1

pub returns-in-Err-Memory-clause-output : goal.returns-in-Err-Memory-clause-output
returns-in-Err-Memory-clause-output g c =
    so_far_nothing _ _ _ _ c.loop-reply.progress _ _ _ c.loop-reply.invariant.so_far _

pub returns-in-Err-Memory-clause-reports : goal.returns-in-Err-Memory-clause-reports
returns-in-Err-Memory-clause-reports g c =
    reported_lacking _ _ _ _ c.loop-reply.progress _ _ _ c.loop-reply.invariant.so_far c.advance.new.progress _ _
    (rw c.in-Err-Memory.field-0-is at c.in-Err-Memory.ensures.moves)
