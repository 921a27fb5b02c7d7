use Rattle.larch_certificate_printer.specs.Number.{number_spelled}
use Rattle.larch_certificate_printer.proofs.Items.{first_number_written}
use Rattle.larch_certificate_printer.proofs.list.write_numbers.Goals as goal

pub loop-number-init : goal.loop-number-init
loop-number-init c =
    rw c.in_ok-write_kind.ensures (first_number_written
    (number_spelled c.args.here c.args.kind) c.args.separator c.args.numbers.now c.args.text.now
    c.in-len1-up.len_at_least)
