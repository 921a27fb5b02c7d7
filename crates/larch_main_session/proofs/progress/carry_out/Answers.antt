-- The line's command, and what is done at it.
use Rattle.std.proofs.Common.{◌≡◌, Some, None, sym, ap, ◌∙◌, arith}
use Rattle.larch_main_session.specs.declared.command.Command.TheVariants.{Derive, Drop, Put, Quit, Report, Skip}
use Rattle.larch_main_session.specs.Command.{command_of}
use Rattle.larch_main_session.proofs.Commands.{derive_moves, drop_moves, none_moves, put_passes, put_too_large}
use Rattle.larch_main_session.proofs.Commands.{quit_moves, report_moves, skip_moves}
use Rattle.larch_main_session.proofs.progress.carry_out.Goals as goal

pub returns-in-None-clause-moves : goal.returns-in-None-clause-moves
returns-in-None-clause-moves g c =
    let is : command_of c.args.line.now ≡ None = sym c.in_ok-command_of.ensures ∙ c.in-None.is in
    rw is (none_moves c.args.progress.now _ _ c.args.before c.refuse_malformed.result c.refuse_malformed.ensures)

pub returns-in-Some-Skip-clause-moves : goal.returns-in-Some-Skip-clause-moves
returns-in-Some-Skip-clause-moves g c =
    let is : command_of c.args.line.now ≡ Some Skip =
    sym c.in_ok-command_of.ensures ∙ c.in-Some-Skip.is ∙ ap Some c.in-Some-Skip.field-0-is in
    rw is (skip_moves c.args.progress.now _ _ c.args.before c.new.result c.new.ensures)

pub returns-in-Some-Quit-clause-moves : goal.returns-in-Some-Quit-clause-moves
returns-in-Some-Quit-clause-moves g c =
    let is : command_of c.args.line.now ≡ Some Quit =
    sym c.in_ok-command_of.ensures ∙ c.in-Some-Quit.is ∙ ap Some c.in-Some-Quit.field-0-is in
    quit_moves c.args.progress.now _ _ c.args.before
    (command_of c.args.line.now) c.end_session.result is c.end_session.ensures

pub returns-in-Some-Drop-clause-moves : goal.returns-in-Some-Drop-clause-moves
returns-in-Some-Drop-clause-moves g c =
    let is : command_of c.args.line.now ≡ Some (Drop c.in-Some-Drop.name) =
    sym c.in_ok-command_of.ensures ∙ c.in-Some-Drop.is ∙ ap Some c.in-Some-Drop.field-0-is in
    rw is (drop_moves c.args.progress.now c.drop_file.new.self _ _ c.args.before c.in-Some-Drop.name
    c.new-in-Some-Drop.result c.drop_file.ensures c.new-in-Some-Drop.ensures)

pub returns-in-Some-Report-clause-moves : goal.returns-in-Some-Report-clause-moves
returns-in-Some-Report-clause-moves g c =
    let is : command_of c.args.line.now ≡ Some Report =
    sym c.in_ok-command_of.ensures ∙ c.in-Some-Report.is ∙ ap Some c.in-Some-Report.field-0-is in
    let ensured = c.answer_report.ensures in
    rw is (report_moves c.args.progress.now c.answer_report.new.progress _ c.args.before _ _ ensured.reader
    ensured.files ensured.limit ensured.least ensured.most c.answer_report.result ensured.reply ensured.good
    ensured.proved ensured.memory)

pub returns-in-Some-Derive-clause-moves : goal.returns-in-Some-Derive-clause-moves
returns-in-Some-Derive-clause-moves g c =
    let is : command_of c.args.line.now ≡ Some (Derive c.in-Some-Derive.stem c.in-Some-Derive.label) =
    sym c.in_ok-command_of.ensures ∙ c.in-Some-Derive.is ∙ ap Some c.in-Some-Derive.field-0-is in
    let ensured = c.answer_derive.ensures in
    rw is (derive_moves c.args.progress.now c.answer_derive.new.progress _ c.args.before _ _ c.in-Some-Derive.stem
    c.in-Some-Derive.label ensured.reader ensured.files ensured.limit ensured.least ensured.most
    c.answer_derive.result ensured.reply ensured.good ensured.memory)

pub returns-then-count-gt-MAX_FILE_BYTES-clause-moves :
    goal.returns-then-count-gt-MAX_FILE_BYTES-clause-moves
returns-then-count-gt-MAX_FILE_BYTES-clause-moves g c =
    let is : command_of c.args.line.now ≡ Some (Put c.in-Some-Put.name c.in-Some-Put.count) =
    sym c.in_ok-command_of.ensures ∙ c.in-Some-Put.is ∙ ap Some c.in-Some-Put.field-0-is in
    rw is (put_too_large c.args.progress.now _ _ c.args.before c.in-Some-Put.name c.in-Some-Put.count c.too_large.result
    (omega arith) c.too_large.ensures)

pub returns-else-count-gt-MAX_FILE_BYTES-clause-moves :
    goal.returns-else-count-gt-MAX_FILE_BYTES-clause-moves
returns-else-count-gt-MAX_FILE_BYTES-clause-moves g c =
    let is : command_of c.args.line.now ≡ Some (Put c.in-Some-Put.name c.in-Some-Put.count) =
    sym c.in_ok-command_of.ensures ∙ c.in-Some-Put.is ∙ ap Some c.in-Some-Put.field-0-is in
    rw is (put_passes c.args.progress.now c.put.new.progress _ _ _ c.args.before c.in-Some-Put.name c.in-Some-Put.count
    c.put.result (omega arith) (c.put.ensures.moves _))
