use Rattle.std.proofs.Common.{sym}
use Rattle.larch_main_session.proofs.Steps.{moves_after, bytes_pass, file_moves, bytes_refused}
use Rattle.larch_main_session.proofs.progress.put.Goals as goal

pub returns-in-Ok-clause-moves : goal.returns-in-Ok-clause-moves
returns-in-Ok-clause-moves g c = λ steps.
    let p = c.args.progress.now in
    let q = record p { reader = c.take_exact.new.reader } in
    let r = record q { session = c.keep.new.session } in
    rw (sym c.in-Ok.ensures.count)
    (moves_after p c.take_exact.new.reader r _ _ _ steps steps c.keep.result
    (bytes_pass p c.take_exact.new.reader _ _ c.args.before c.args.name c.in-Ok.bytes c.in-Ok.ensures.bytes
    c.take_exact.ensures.within)
    (file_moves q c.keep.new.session _ steps c.args.name c.in-Ok.bytes c.keep.result c.keep.ensures))

pub returns-in-Err-clause-moves : goal.returns-in-Err-clause-moves
returns-in-Err-clause-moves g c = λ steps.
    bytes_refused c.args.progress.now c.take_exact.new.reader _ _ steps c.args.before c.args.name c.args.count
    c.in-Err.refusal c.without_bytes.result
    c.in-Err.ensures.none c.in-Err.ensures.refused c.without_bytes.ensures
