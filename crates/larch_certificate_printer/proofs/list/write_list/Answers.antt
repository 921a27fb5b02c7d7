use Rattle.std.proofs.Common.{◌∙◌, sym, refl, ap}
use Rattle.larch_certificate_printer.proofs.Items.{first_written}
use Rattle.larch_certificate_printer.proofs.list.write_list.Goals as goal

pub loop-item-init : goal.loop-item-init
loop-item-init g c =
    rw c.in_ok-write.ensures (first_written
    (g.T.Item.spells c.args.here) c.args.separator c.args.items.now c.first-item.result c.args.text.now
    c.in-len1-up.len_at_least c.first-item.is)
